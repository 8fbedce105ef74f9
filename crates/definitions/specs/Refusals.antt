-- The numbers of the refusals, as listed in docs/FORMAT.md. Assumes nothing.
use Rattle.std.specs.Prelude.{ℕ}

-- reading and making tables and deltas: the Rust's `snap::Error`
abbrev pub unexpected_end : ℕ
unexpected_end = 1

abbrev pub int_out_of_range : ℕ
int_out_of_range = 2

abbrev pub deleted_items_unpacking : ℕ
deleted_items_unpacking = 3

abbrev pub item_diffs_unpacking : ℕ
item_diffs_unpacking = 4

abbrev pub type_id_range : ℕ
type_id_range = 5

abbrev pub id_range : ℕ
id_range = 6

abbrev pub negative_size : ℕ
negative_size = 7

abbrev pub too_long_snap : ℕ
too_long_snap = 8

abbrev pub too_many_items : ℕ
too_many_items = 9

abbrev pub delta_differing_sizes : ℕ
delta_differing_sizes = 10

abbrev pub offsets_unpacking : ℕ
offsets_unpacking = 11

abbrev pub invalid_offset : ℕ
invalid_offset = 12

abbrev pub items_unpacking : ℕ
items_unpacking = 13

abbrev pub duplicate_key : ℕ
duplicate_key = 14

abbrev pub duplicate_uuid_type : ℕ
duplicate_uuid_type = 15

abbrev pub invalid_uuid_type : ℕ
invalid_uuid_type = 16

abbrev pub missing_uuid_type : ℕ
missing_uuid_type = 17

-- the receiver: the Rust's `receiver::Error`
abbrev pub old_delta : ℕ
old_delta = 20

abbrev pub invalid_num_parts : ℕ
invalid_num_parts = 21

abbrev pub invalid_part : ℕ
invalid_part = 22

abbrev pub duplicate_part : ℕ
duplicate_part = 23

-- the store: the Rust's `storage::Error`
abbrev pub store_old_delta : ℕ
store_old_delta = 30

abbrev pub unknown_snap : ℕ
unknown_snap = 31

abbrev pub invalid_crc : ℕ
invalid_crc = 32

-- a result longer than its area, and nothing else wrong
abbrev pub capacity_error : ℕ
capacity_error = 40

-- scratch or a part area shorter than the call needs
abbrev pub scratch_too_short : ℕ
scratch_too_short = 41

-- over 1,048,576 bytes or ints to read or to cut into messages
abbrev pub input_too_long : ℕ
input_too_long = 42

-- a part or a single message over 900 bytes
abbrev pub part_too_long : ℕ
part_too_long = 43

-- a table added to a store that holds 100
abbrev pub store_full : ℕ
store_full = 44

-- a plain type that is 0, or 4000 hex or above
abbrev pub invalid_type_id : ℕ
invalid_type_id = 45

-- a known size that is not the data's length on writing
abbrev pub known_size_differs : ℕ
known_size_differs = 46

-- a table, delta, store or receiver not in its form
abbrev pub not_in_form : ℕ
not_in_form = 47

-- a packed integer with padding bits that are set
abbrev pub non_zero_int_padding : ℕ
non_zero_int_padding = 52

-- a rule with fewer than three ints
abbrev pub short_rule : ℕ
short_rule = 55
