-- Which kinds of warning a step of a message counts. Assumes nothing.
use Rattle.std.specs.Prelude.{◌≡◌, refl, Bool, true, false, cond, ℕ}
use Rattle.std.proofs.Common.{sym, ap, ap₂, ◌∙◌, add-zero, zero-add}
use Rattle.definitions.specs.Warnings.{Warning, Counts, UnknownDelete, ExcessSnapData, ExcessUuidItemData, DuplicateSnap, DifferingAttributes, WeirdNegativeDeltaTick, one, plus}
use Rattle.definitions.specs.Warnings as Warnings
use Rattle.definitions.specs.Outcome.{Outcome, ok, err, return, require, warn_if, after, ◌>>=◌, ◌>>◌}
use Rattle.laws.specs.WarningLaws.{set}

-- ---- the kinds of each step

-- each kind of warning from the step that counts it: receiver, reading of the delta, or store; the delta's steps leave no ints over
abbrev pub merge : Counts → Counts → Counts → Counts
merge received read taken =
    set DuplicateSnap received.duplicate_snap
    (set DifferingAttributes received.differing_attributes
    (set UnknownDelete taken.unknown_delete
    (set ExcessUuidItemData taken.excess_uuid_item_data
    (set WeirdNegativeDeltaTick taken.weird_negative_delta_tick (set ExcessSnapData 0 read)))))

-- the kinds of the receiver: all other counts are 0
abbrev pub of_receiver : Counts → Counts
of_receiver w = merge w Warnings.none Warnings.none

-- the kinds of reading a delta
abbrev pub of_reading : Counts → Counts
of_reading w = merge Warnings.none w Warnings.none

-- the kinds of a store
abbrev pub of_store : Counts → Counts
of_store w = merge Warnings.none Warnings.none w

-- all kinds
abbrev pub of_any : Counts → Counts
of_any w = w

-- the sum of the three has each kind from the step that counts it
sums : (a b c : Counts) → plus (plus (of_receiver a) (of_reading b)) (of_store c) ≡ merge a b c
sums a b c = simp (add-zero, zero-add)

-- of counts that have no other kinds
pub merges : (a b c : Counts) → a ≡ of_receiver a → b ≡ of_reading b → c ≡ of_store c → plus (plus a b) c ≡ merge a b c
merges a b c e f g = ap₂ plus (ap₂ plus e f) g ∙ sums a b c

-- ---- what is so of an outcome

-- its warnings are of some kinds, and its value has a property
pub data Told {A : Type 0} (only : Counts → Counts) (P : A → Type 0) : Outcome A → Type 0 where
  value : {a : A} {w : Counts} → P a → w ≡ only w → Told only P (ok a w)
  refusal : {n : ℕ} {w : Counts} → w ≡ only w → Told only P (err n w)

-- any value
abbrev pub Any : {A : Type 0} → A → Type 0
Any a = Unit {0}

-- kinds of which nothing is some, and sums are: no other kind is counted
pub record Closed (only : Counts → Counts) : Type 0 where
  pub nothing : Warnings.none ≡ only Warnings.none
  pub both : (v w : Counts) → v ≡ only v → w ≡ only w → plus v w ≡ only (plus v w)

pub receiving : Closed of_receiver
receiving = record { nothing = refl; both = λ v w e f. ap₂ plus e f }

pub reading : Closed of_reading
reading = record { nothing = refl; both = λ v w e f. ap₂ plus e f }

pub storing : Closed of_store
storing = record { nothing = refl; both = λ v w e f. ap₂ plus e f }

pub counting : Closed of_any
counting = record { nothing = refl; both = λ v w e f. refl }

module _ {only : Counts → Counts} (c : Closed only) where
  module _ {A : Type 0} {P : A → Type 0} where
    -- after earlier warnings
    pub later : {o : Outcome A} (w : Counts) → w ≡ only w → Told only P o → Told only P (after w o)
    later w e (value {w = v} p f) = value p (c.both w v e f)
    later w e (refusal {w = v} f) = refusal (c.both w v e f)

    -- a value without a warning
    pub returns : (a : A) → P a → Told only P (return a)
    returns a p = value p c.nothing

    -- after a condition
    pub given : {o : Outcome A} (b : Bool) (n : ℕ) → (b ≡ true → Told only P o) → Told only P (require b n >> o)
    given true n h = later Warnings.none c.nothing (h refl)
    given false n h = refusal c.nothing

    -- after a warning of one of the kinds
    pub warns : {o : Outcome A} (b : Bool) (k : Warning) → one k ≡ only (one k) → Told only P o → Told only P (warn_if b k >> o)
    warns true k e h = later (one k) e h
    warns false k e h = later Warnings.none c.nothing h

    -- after a warning that is not due
    pub spared : {o : Outcome A} (b : Bool) (k : Warning) → b ≡ false → Told only P o → Told only P (warn_if b k >> o)
    spared b k e h = rw e (later Warnings.none c.nothing h)

    -- one of two
    pub either : {x y : Outcome A} (b : Bool) → Told only P x → Told only P y → Told only P (cond b x y)
    either true h k = h
    either false h k = k

  module _ {A B : Type 0} {Q : B → Type 0} {P : A → Type 0} where
    -- one step and then the next, which the first one's value goes into
    pub then : {o : Outcome B} (f : B → Outcome A) → Told only Q o → ((b : B) → Q b → Told only P (f b)) → Told only P (o >>= f)
    then f (value {w = w} q e) k = later w e (k _ q)
    then f (refusal e) k = refusal e

    -- one step and then the next
    pub next : {o : Outcome B} {x : Outcome A} → Told only Q o → Told only P x → Told only P (o >> x)
    next (value {w = w} q e) h = later w e h
    next (refusal e) h = refusal e

-- a weaker property
pub weaker : {A : Type 0} {only : Counts → Counts} {P Q : A → Type 0} {o : Outcome A} → ((a : A) → P a → Q a) → Told only P o → Told only Q o
weaker f (value p e) = value (f _ p) e
weaker f (refusal e) = refusal e

-- kinds among which these are
pub wider : {A : Type 0} {only more : Counts → Counts} {P : A → Type 0} {o : Outcome A} → ((w : Counts) → only w ≡ more (only w)) → Told only P o → Told more P o
wider {more = more} f (value {w = w} p e) = value p (e ∙ (f w ∙ ap more (sym e)))
wider {more = more} f (refusal {w = w} e) = refusal (e ∙ (f w ∙ ap more (sym e)))

-- the kinds and the property, each by itself
pub together : {A : Type 0} {only : Counts → Counts} {P : A → Type 0} {o : Outcome A} → Told only Any o → Told of_any P o → Told only P o
together (value p e) (value q f) = value q e
together (refusal e) (refusal f) = refusal e
