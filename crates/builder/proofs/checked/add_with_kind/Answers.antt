-- `checked::add_with_kind` meets its contract: the kind item goes first, and the area that it leaves holds a table, or has no room. Assumes nothing.
use native.Mathlib.Omega.{arith}
use mathlib.Core.Path.{◌≡◌, sym, ap, subst, ◌∙◌}
use mathlib.Core.List.{List}
use Prim.Native.Nat.{ℕ, ◌+◌, ◌^◌, ◌<◌}
use lib.IntN.{ℤ}
use lib.ListN.{length}
use mir.Facts.{to_z-of_z}
use Rattle.definitions.specs.Ints.{bits}
use Rattle.definitions.specs.Tables.{Item, Table, items, key_of}
use Rattle.definitions.specs.TableReading.{add_item}
use Rattle.definitions.specs.TableCalls.{stored_table}
use Rattle.definitions.specs.Builder.{add_to, next_kind, with_kind}
use Rattle.format.specs.Answers.{stored_ints}
use Rattle.format.specs.Numbers.{number}
use Rattle.std.specs.Prelude.{Result, Ok, Err}
use Rattle.format.specs.declared.Error.{Error}
use Rattle.builder.specs.Building.{NoRoom}
use Rattle.builder.proofs.Adding.{Added, added, items_more, held_more, takes-more, first-refused, first-stays}
use Rattle.builder.proofs.Refusing.{not-40, Lacks, lacking, item_refused, not-too-long, second-lacks}
use Rattle.std.proofs.Common.{w32}
use Rattle.builder.proofs.checked.add_with_kind.Goals as goal

pub add-first-requires : goal.add-first-requires
add-first-requires c = let b = c.requires in (b.held, b.takes)

pub add-requires : goal.add-requires
add-requires c =
    let t : Table =
    items c.args.area.now in
    let number_is : 16384 + c.args.kinds ≡ next_kind t =
    ap (λ (k : ℕ). 16384 + k) (sym c.requires.kinds) in
    let kind-item : Item =
    record { key = key_of 0 (next_kind t); values = c.args.kind.now } in
    let small : kind-item.key < 2 ^ 32 =
    omega (arith, number_is, c.requires.few) in
    let first-is : let s = c in add_to s.args.area.now (t) 0 (next_kind (t)) s.args.kind.now ≡ record { answer = stored_ints c.add-first.result; out = c.add-first.new.area } =
    let s = c in
    ap (λ (k : ℕ). stored_table s.args.area.now (add_item (record { key = k; values = s.args.kind.now }) (t)))
    (sym (ap bits (to_z-of_z {w = w32} (record { sfits = c.key.type_inv })) ∙ c.key.ensures ∙ ap (key_of 0) (number_is)))
    ∙ c.add-first.ensures in
    let area : List ℤ =
    c.add-first.new.area in
    let told : add_to c.args.area.now (t) 0 (next_kind (t)) c.args.kind.now ≡ record { answer = stored_ints (Ok c.in-Ok.total); out = area } =
    first-is ∙ ap (λ (r : Result ℕ Error). record { answer = stored_ints r; out = area }) c.in-Ok.is in
    let done : Added c.args.area.now (kind-item) (t) c.in-Ok.total area =
    added c.args.area.now (kind-item) (t) c.in-Ok.total area told in
    let d = c in
    let s = c in
    (held_more s.args.area.now s.args.n s.requires.held (kind-item) (small) _ _ (done), takes-more s.args.area.now s.args.n s.requires.held (kind-item) (small) _ _ (done))

pub refuse_without_room-requires : goal.refuse_without_room-requires
refuse_without_room-requires c =
    let t : Table =
    items c.args.area.now in
    let number_is : 16384 + c.args.kinds ≡ next_kind t =
    ap (λ (k : ℕ). 16384 + k) (sym c.requires.kinds) in
    let kind-item : Item =
    record { key = key_of 0 (next_kind t); values = c.args.kind.now } in
    let first-is : let s = c in add_to s.args.area.now (t) 0 (next_kind (t)) s.args.kind.now ≡ record { answer = stored_ints c.add-first.result; out = c.add-first.new.area } =
    let s = c in
    ap (λ (k : ℕ). stored_table s.args.area.now (add_item (record { key = k; values = s.args.kind.now }) (t)))
    (sym (ap bits (to_z-of_z {w = w32} (record { sfits = c.key.type_inv })) ∙ c.key.ensures ∙ ap (key_of 0) (number_is)))
    ∙ c.add-first.ensures in
    let left : List ℤ =
    c.add-first.new.area in
    let refusal : add_to c.args.area.now (t) 0 (next_kind (t)) c.args.kind.now ≡ record { answer = stored_ints (Err c.in-Err.e); out = left } =
    first-is ∙ ap (λ (r : Result ℕ Error). record { answer = stored_ints r; out = left }) c.in-Err.is in
    let lacks : let d = c in let s = c in (s.args.area.now ≡ left) × Lacks s.args.area.now (kind-item) (t) =
    let d = c in
    let s = c in
    lacking s.args.area.now (kind-item) (t) (number d.in-Err.e) (left) (refusal) (ap number c.in-CapacityError.is) in
    let s = c in
    not-too-long s.args.area.now s.args.n s.args.ints s.args.kinds s.requires s.args.kind.now (lacks).1

pub returns-in-Ok : goal.returns-in-Ok
returns-in-Ok c =
    let t : Table =
    items c.args.area.now in
    let number_is : 16384 + c.args.kinds ≡ next_kind t =
    ap (λ (k : ℕ). 16384 + k) (sym c.requires.kinds) in
    let kind-item : Item =
    record { key = key_of 0 (next_kind t); values = c.args.kind.now } in
    let second : Item =
    record { key = key_of (next_kind t) c.args.id; values = c.args.«data».now } in
    let small : kind-item.key < 2 ^ 32 =
    omega (arith, number_is, c.requires.few) in
    let first-is : let s = c in add_to s.args.area.now (t) 0 (next_kind (t)) s.args.kind.now ≡ record { answer = stored_ints c.add-first.result; out = c.add-first.new.area } =
    let s = c in
    ap (λ (k : ℕ). stored_table s.args.area.now (add_item (record { key = k; values = s.args.kind.now }) (t)))
    (sym (ap bits (to_z-of_z {w = w32} (record { sfits = c.key.type_inv })) ∙ c.key.ensures ∙ ap (key_of 0) (number_is)))
    ∙ c.add-first.ensures in
    let area : List ℤ =
    c.add-first.new.area in
    let told : add_to c.args.area.now (t) 0 (next_kind (t)) c.args.kind.now ≡ record { answer = stored_ints (Ok c.in-Ok.total); out = area } =
    first-is ∙ ap (λ (r : Result ℕ Error). record { answer = stored_ints r; out = area }) c.in-Ok.is in
    let done : Added c.args.area.now (kind-item) (t) c.in-Ok.total area =
    added c.args.area.now (kind-item) (t) c.in-Ok.total area told in
    let d = c in
    let s = c in
    first-stays s.args.area.now s.args.id s.args.«data».now (t) s.args.kind.now _ _ (done).adds (told)
    ∙ ap (λ (u : Table). stored_table (area) (add_item (second) u)) (sym (items_more s.args.area.now s.args.n s.requires.held (kind-item) (small) _ _ (done)))
    ∙ ap (λ (k : ℕ). stored_table (area) (add_item (record { key = k; values = s.args.«data».now }) (items (area))))
    (sym (ap bits (to_z-of_z {w = w32} (record { sfits = c.key-in-Ok.type_inv })) ∙ c.key-in-Ok.ensures ∙ ap (λ (k : ℕ). key_of k s.args.id) (number_is)))
    ∙ c.add.ensures

pub returns-in-CapacityError : goal.returns-in-CapacityError
returns-in-CapacityError c =
    let t : Table =
    items c.args.area.now in
    let number_is : 16384 + c.args.kinds ≡ next_kind t =
    ap (λ (k : ℕ). 16384 + k) (sym c.requires.kinds) in
    let kind-item : Item =
    record { key = key_of 0 (next_kind t); values = c.args.kind.now } in
    let with_first : Table =
    with_kind t (next_kind t) c.args.kind.now in
    let second : Item =
    record { key = key_of (next_kind t) c.args.id; values = c.args.«data».now } in
    let first-is : let s = c in add_to s.args.area.now (t) 0 (next_kind (t)) s.args.kind.now ≡ record { answer = stored_ints c.add-first.result; out = c.add-first.new.area } =
    let s = c in
    ap (λ (k : ℕ). stored_table s.args.area.now (add_item (record { key = k; values = s.args.kind.now }) (t)))
    (sym (ap bits (to_z-of_z {w = w32} (record { sfits = c.key.type_inv })) ∙ c.key.ensures ∙ ap (key_of 0) (number_is)))
    ∙ c.add-first.ensures in
    let left : List ℤ =
    c.add-first.new.area in
    let refusal : add_to c.args.area.now (t) 0 (next_kind (t)) c.args.kind.now ≡ record { answer = stored_ints (Err c.in-Err.e); out = left } =
    first-is ∙ ap (λ (r : Result ℕ Error). record { answer = stored_ints r; out = left }) c.in-Err.is in
    let lacks : let d = c in let s = c in (s.args.area.now ≡ left) × Lacks s.args.area.now (kind-item) (t) =
    let d = c in
    let s = c in
    lacking s.args.area.now (kind-item) (t) (number d.in-Err.e) (left) (refusal) (ap number c.in-CapacityError.is) in
    let d = c in
    let s = c in
    let w = lacks in
    first-stays s.args.area.now s.args.id s.args.«data».now (t) s.args.kind.now (left) _ w.1.adds (refusal)
    ∙ c.refuse_without_room.ensures (left) (with_first) (second)
    (subst (λ (l : List ℤ). NoRoom l (with_first) (second) (s.args.n + 1) (s.args.ints + (length s.args.kind.now + 2)) (length s.args.«data».now)) w.0
    (second-lacks s.args.area.now s.args.n s.args.ints s.args.kinds s.requires s.args.kind.now w.1 s.args.id s.args.«data».now s.ranges.id.fits))

pub returns-in_default : goal.returns-in_default
returns-in_default c =
    let t : Table =
    items c.args.area.now in
    let number_is : 16384 + c.args.kinds ≡ next_kind t =
    ap (λ (k : ℕ). 16384 + k) (sym c.requires.kinds) in
    let kind-item : Item =
    record { key = key_of 0 (next_kind t); values = c.args.kind.now } in
    let first-is : let s = c in add_to s.args.area.now (t) 0 (next_kind (t)) s.args.kind.now ≡ record { answer = stored_ints c.add-first.result; out = c.add-first.new.area } =
    let s = c in
    ap (λ (k : ℕ). stored_table s.args.area.now (add_item (record { key = k; values = s.args.kind.now }) (t)))
    (sym (ap bits (to_z-of_z {w = w32} (record { sfits = c.key.type_inv })) ∙ c.key.ensures ∙ ap (key_of 0) (number_is)))
    ∙ c.add-first.ensures in
    let left : List ℤ =
    c.add-first.new.area in
    let refusal : add_to c.args.area.now (t) 0 (next_kind (t)) c.args.kind.now ≡ record { answer = stored_ints (Err c.in-Err.e); out = left } =
    first-is ∙ ap (λ (r : Result ℕ Error). record { answer = stored_ints r; out = left }) c.in-Err.is in
    let d = c in
    let s = c in
    first-refused s.args.area.now s.args.id s.args.«data».now (t) s.args.kind.now (left) _
    (item_refused s.args.area.now (kind-item) (t) (number d.in-Err.e) (left) (refusal) (not-40 d.in-Err.e c.in_default.not-CapacityError))
    (refusal)
