-- `checked::read_behind` meets its contract: an update is refused, or all of them are stored. Assumes nothing.
use Rattle.delta_any_order.proofs.Fronting.{told, sums-small, weighs}
use Rattle.delta_any_order.proofs.Whole.{refused-behind, stored-behind}
use Rattle.delta_any_order.proofs.checked.read_behind.Goals as goal

pub counted-requires : goal.counted-requires
counted-requires c =
    let F = c.requires.1 in
    let J = c.judge_updates-judged.ensures in
    let t = c.tally-t in
    let T = t.ensures F.values J.items (told F J) in
    sums-small F J t.result T c.requires.0

pub store-requires : goal.store-requires
store-requires c =
    let F = c.requires.1 in
    let J = c.judge_updates-judged.ensures in
    let t = c.tally-t in
    let T = t.ensures F.values J.items (told F J) in
    (c.requires.0, F, weighs F J t.result T)

pub counted-requires-in-Ok : goal.counted-requires-in-Ok
counted-requires-in-Ok c =
    let F = c.requires.1 in
    let J = c.judge_updates-judged.ensures in
    let t = c.tally-t in
    let T = t.ensures F.values J.items (told F J) in
    sums-small F J t.result T c.requires.0

pub returns-in-Err : goal.returns-in-Err
returns-in-Err c =
    let F = c.requires.1 in
    let J = c.judge_updates-judged.ensures in
    let t = c.tally-t in
    let T = t.ensures F.values J.items (told F J) in
    refused-behind F J t.result T c.args.out.now c.in-Err.error _ c.in-Err.is c.counted.ensures

pub returns-in-Ok : goal.returns-in-Ok
returns-in-Ok c =
    let F = c.requires.1 in
    let J = c.judge_updates-judged.ensures in
    let t = c.tally-t in
    let T = t.ensures F.values J.items (told F J) in
    stored-behind F J t.result T c.args.out.now _ c.store.result _ c.in-Ok.is c.counted-in-Ok.ensures c.store.ensures
