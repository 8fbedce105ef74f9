-- What each source of warnings counts; a kind that is not named has none. Assumes nothing.
use Rattle.std.specs.Prelude.{Bool, cond, ℕ}
use Rattle.definitions.specs.Warnings.{Counts, none, one}
use Rattle.definitions.specs.Warnings.{NonZeroPadding, DuplicateDelete, DuplicateUpdate, UnknownDelete, DeleteUpdate, NumUpdatedItems}
use Rattle.definitions.specs.Warnings.{ExcessSnapData, ExcessUuidItemData, DuplicateSnap, DifferingAttributes, WeirdNegativeDeltaTick}
use Rattle.laws.specs.WarningLaws.{set, packed}

-- ---- tables

-- more ints follow a table
abbrev pub excess : Bool → Counts
excess b = cond b (one ExcessSnapData) none

-- n items of type 0 with more than four ints
abbrev pub uuid_excess : ℕ → Counts
uuid_excess n = set ExcessUuidItemData n none

-- reading a table: the packer's kind, how often ints are left over, and kinds with more than four ints
abbrev pub table_counts : ℕ → ℕ → ℕ → Counts
table_counts o n kinds = set ExcessSnapData n (set ExcessUuidItemData kinds (packed o))

-- ---- deltas

-- n updates of deleted keys
abbrev pub deleted_counts : ℕ → Counts
deleted_counts n = set DeleteUpdate n none

-- the packer's kind, padding that is not 0, keys deleted twice, repeated updates, updates of deleted keys, a wrong count of updates
abbrev pub counts_of : ℕ → ℕ → ℕ → ℕ → ℕ → ℕ → Counts
counts_of o odd twice repeats crossing other =
    set NonZeroPadding odd
    (set DuplicateDelete twice
    (set DuplicateUpdate repeats
    (set DeleteUpdate crossing
    (set NumUpdatedItems other (packed o)))))

-- the same; three of them are counted at most once
abbrev pub delta_counts : ℕ → Bool → Bool → ℕ → ℕ → Bool → Counts
delta_counts o odd twice repeats crossing other = counts_of o (cond odd 1 0) (cond twice 1 0) repeats crossing (cond other 1 0)

-- ---- applying a delta

-- the base lacks a deleted key
abbrev pub unknown_counts : Bool → Counts
unknown_counts unknown = set UnknownDelete (cond unknown 1 0) none

-- the same, and n kinds with more than four ints
abbrev pub typed_counts : Bool → ℕ → Counts
typed_counts unknown n = set UnknownDelete (cond unknown 1 0) (uuid_excess n)

-- ---- receiver and store

-- the message's tick was unfinished; its numbers differ
abbrev pub flagged : Bool → Bool → Counts
flagged duplicate differing = set DuplicateSnap (cond duplicate 1 0) (set DifferingAttributes (cond differing 1 0) none)

-- the base's tick is negative and not -1
abbrev pub weirdly : Bool → Counts
weirdly weird = set WeirdNegativeDeltaTick (cond weird 1 0) none

-- the same, and the warnings of applying
abbrev pub taken_counts : Bool → Bool → ℕ → Counts
taken_counts weird unknown n = set WeirdNegativeDeltaTick (cond weird 1 0) (typed_counts unknown n)
