-- Which rule of a table prints: the label product's question to a table. Assumes nothing.
use Rattle.std.specs.Prelude.{Bool, cond, ◌&&◌, ◌||◌, List, [], ◌∷◌, ℕ, ltb, ℤ}
use Rattle.std.proofs.Math.Option.{Option, some, none}
use Rattle.definitions.specs.Ints.{from_bits, signed_less}
use Rattle.definitions.specs.Refusals.{short_rule}
use Rattle.definitions.specs.Outcome.{Outcome, return, refuse, ◌>>=◌}
use Rattle.definitions.specs.Tables.{Table}
use Rattle.definitions.specs.TableCalls.{held}
use Rattle.definitions.specs.DeltaReading.{elem}
use Rattle.definitions.specs.Receiver.{same}
use Rattle.definitions.specs.Types.{type_of}

-- a rule: the key of its item, and the first three ints of its data
pub record Rule : Type 0 where
  pub key : ℕ
  pub ingredient : ℤ
  pub priority : ℤ
  pub action : ℤ

-- the rule of an item, which needs three ints
unfoldable pub rule_in : ℕ → List ℤ → Outcome Rule
rule_in key [] = refuse short_rule
rule_in key (i ∷ []) = refuse short_rule
rule_in key (i ∷ p ∷ []) = refuse short_rule
rule_in key (i ∷ p ∷ a ∷ more) = return (record { key = key; ingredient = i; priority = p; action = a })

-- the rules of a table: its items of the types that are named
unfoldable pub rules_of : List ℕ → Table → Outcome (List Rule)
rules_of types [] = return []
rules_of types (x ∷ t) =
    cond (elem (type_of x) types)
    (do
      r ← rule_in x.key x.values
      l ← rules_of types t
      return (r ∷ l))
    (rules_of types t)

-- whether a rule goes before another: its priority is higher, or the same and its key, read as unsigned, is greater
abbrev pub goes_before : Rule → Rule → Bool
goes_before r s =
    signed_less s.priority r.priority || (same r.priority s.priority && ltb s.key r.key)

-- the first of a rule and another, if there is one
abbrev pub first_of : Rule → Option Rule → Option Rule
first_of r none = some r
first_of r (some s) = cond (goes_before r s) (some r) (some s)

-- the rule for an ingredient that goes before all others for it
unfoldable pub winner_of : ℤ → List Rule → Option Rule
winner_of i [] = none
winner_of i (r ∷ l) = cond (same r.ingredient i) (first_of r (winner_of i l)) (winner_of i l)

-- ---- the call

-- what is answered of the winner
pub record Winner : Type 0 where
  pub key : ℤ
  pub action : ℤ

abbrev pub winner_in : Option Rule → Option Winner
winner_in (some r) = some (record { key = from_bits r.key; action = r.action })
winner_in none = none

-- the winner of a table
abbrev pub winner_for : List ℕ → ℤ → Table → Outcome (Option Winner)
winner_for types ingredient t = rules_of types t >>= λ l. return (winner_in (winner_of ingredient l))

abbrev pub winner_call : List ℤ → List ℕ → ℤ → Outcome (Option Winner)
winner_call area types ingredient = held area >>= winner_for types ingredient
