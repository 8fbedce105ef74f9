-- The number of each refusal. Assumes nothing.
use Rattle.std.specs.Prelude.{ℕ}
use Rattle.definitions.specs.Refusals as Refusals
use Rattle.format.specs.declared.Error.{Error}
use Rattle.format.specs.declared.Error.TheVariants as error

-- the number of a refusal in docs/FORMAT.md
abbrev pub number : Error → ℕ
number error.UnexpectedEnd = Refusals.unexpected_end
number error.IntOutOfRange = Refusals.int_out_of_range
number error.DeletedItemsUnpacking = Refusals.deleted_items_unpacking
number error.ItemDiffsUnpacking = Refusals.item_diffs_unpacking
number error.TypeIdRange = Refusals.type_id_range
number error.IdRange = Refusals.id_range
number error.NegativeSize = Refusals.negative_size
number error.TooLongSnap = Refusals.too_long_snap
number error.TooManyItems = Refusals.too_many_items
number error.DeltaDifferingSizes = Refusals.delta_differing_sizes
number error.OffsetsUnpacking = Refusals.offsets_unpacking
number error.InvalidOffset = Refusals.invalid_offset
number error.ItemsUnpacking = Refusals.items_unpacking
number error.DuplicateKey = Refusals.duplicate_key
number error.DuplicateUuidType = Refusals.duplicate_uuid_type
number error.InvalidUuidType = Refusals.invalid_uuid_type
number error.MissingUuidType = Refusals.missing_uuid_type
number error.OldDelta = Refusals.old_delta
number error.InvalidNumParts = Refusals.invalid_num_parts
number error.InvalidPart = Refusals.invalid_part
number error.DuplicatePart = Refusals.duplicate_part
number error.StoreOldDelta = Refusals.store_old_delta
number error.UnknownSnap = Refusals.unknown_snap
number error.InvalidCrc = Refusals.invalid_crc
number error.CapacityError = Refusals.capacity_error
number error.ScratchTooShort = Refusals.scratch_too_short
number error.InputTooLong = Refusals.input_too_long
number error.PartTooLong = Refusals.part_too_long
number error.StoreFull = Refusals.store_full
number error.InvalidTypeId = Refusals.invalid_type_id
number error.KnownSizeDiffers = Refusals.known_size_differs
number error.NotInForm = Refusals.not_in_form
number error.NonZeroIntPadding = Refusals.non_zero_int_padding
number error.ShortRule = Refusals.short_rule
