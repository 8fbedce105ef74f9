-- Equal lists of calls of a builder build equal tables, in whatever areas with room. Assumes nothing.
use Rattle.std.specs.Prelude.{ℕ, ◌≤◌, ◌≡◌, List, [], ◌∷◌, ℤ, length}
use Rattle.std.proofs.Math.Path.{refl}
use Rattle.std.proofs.Common.{sym, ◌∙◌, subst, arith, le-leb}
use Rattle.std.proofs.Math.Option.{some}
use Rattle.definitions.specs.Stored.{stored}
use Rattle.definitions.specs.Tables.{Table, body, offsets, written, table_of}
use Rattle.definitions.specs.Types.{TypeId}
use Rattle.definitions.specs.Builder.{new_call, builder_add_item_call}
use Rattle.laws.specs.AreaLaws.{length-lay}
use Rattle.laws.specs.BuilderForm.{Given, Built, nothing}
use Rattle.laws.specs.BuilderCalls.{after_call, Leaves, leaves, add-leaves, new-holds}

-- what one call adds
pub record Add : Type 0 where
  pub type : TypeId
  pub id : ℕ
  pub values : List ℤ

-- every call has arguments that a call can have
abbrev pub AllGiven : List Add → Type 0
AllGiven [] = Unit {0}
AllGiven (x ∷ l) = Given x.type x.id x.values × AllGiven l

-- the table after some calls
unfoldable pub build_all : Table → List Add → Table
build_all t [] = t
build_all t (x ∷ l) = build_all (after_call x.type x.id x.values t) l

-- the area after some calls
unfoldable pub call_all : List ℤ → List Add → List ℤ
call_all a [] = a
call_all a (x ∷ l) = call_all (builder_add_item_call a x.type x.id x.values).out l

-- the area then holds the table
pub all_held : (a : List ℤ) (t : Table) (l : List Add) → AllGiven l → table_of a ≡ some t → Built t → 16384 ≤ length a → (table_of (call_all a l) ≡ some (build_all t l)) × Built (build_all t l)
unfolding call_all build_all
all_held a t [] g e b r = (e, b)
all_held a t (x ∷ l) g e b r =
    go (add-leaves a t x.type x.id x.values g.0 e b) (λ c u h k s. all_held c u l g.1 h k s)
  where
    go : {c : List ℤ} → Leaves a (after_call x.type x.id x.values t) c
        → ((c : List ℤ) (u : Table) → table_of c ≡ some u → Built u → 16384 ≤ length c → (table_of (call_all c l) ≡ some (build_all u l)) × Built (build_all u l))
        → (table_of (call_all c l) ≡ some (build_all (after_call x.type x.id x.values t) l)) × Built (build_all (after_call x.type x.id x.values t) l)
    go {c} (leaves {u} h k n s) again =
        subst (λ (v : Table). (table_of (call_all c l) ≡ some (build_all v l)) × Built (build_all v l)) (s r) (again c u h k (omega arith))

-- a new area is as long as it was
new-length : (a : List ℤ) → 2 ≤ length a → length (new_call a).out ≡ length a
unfolding stored
new-length a l =
    let n : length (written []) ≡ 2 = unfold written body offsets in refl in
    rw (le-leb (length (written [])) (length a) (omega arith)) (length-lay (written []) a)

-- the calls alone determine the table that is built in a new area of 16,384 ints or more
pub builds-all : (a : List ℤ) (l : List Add) → AllGiven l → 16384 ≤ length a → table_of (call_all (new_call a).out l) ≡ some (build_all [] l)
builds-all a l g r =
    (all_held (new_call a).out [] l g (new-holds a (omega arith)) nothing (let n = new-length a (omega arith) in omega arith)).0

-- so equal calls build equal tables
pub equal-tables : (a c : List ℤ) (l : List Add) → AllGiven l → 16384 ≤ length a → 16384 ≤ length c → table_of (call_all (new_call a).out l) ≡ table_of (call_all (new_call c).out l)
equal-tables a c l g r s = builds-all a l g r ∙ sym (builds-all c l g s)
