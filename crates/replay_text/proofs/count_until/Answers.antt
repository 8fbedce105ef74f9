-- `replay_text::count_until` meets its contract, by the place of the first b. Assumes nothing.
use borrow.Author.Tests.{tests}
use Rattle.std.proofs.Common.{rules, ◌≡◌}
use Rattle.std.proofs.lemmas.Iterator.{YieldsList-from_slice, IsFirst-from_position}
use Rattle.replay_text.proofs.WordLaws.{place}
use Rattle.replay_text.proofs.count_until.Goals as goal

pub returns : goal.returns
returns c =
    let s = c.args in
    let m = IsFirst-from_position _ _ c.position.result (λ x. x ≡ s.b) (λ x. x ≡ s.b → ⊥) c.position.ensures.ran (YieldsList-from_slice s.src.now cc) (λ x q k. search (rules, tests)) (λ x q k. search (rules, tests)) in
    rw c.unwrap_or.ensures (place s.b s.src.now c.position.result m)
