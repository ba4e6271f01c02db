-- The masks that are kept with a layout. No public clause cites this module.
use Rattle.std.specs.Prelude.{◌≡◌, ℕ, ◌*◌, ◌<◌, List, [], length, slice_index_or}
use Rattle.gph_codes.specs.Masks.{mask_of}

-- the masks of the parts, in codes of so many words
pub record AreMasks (words : ℕ) (parts masks : List (List ℕ)) : Type 0 where
  pub number : length masks ≡ length parts
  pub each : (part : ℕ) → part < length parts →
      slice_index_or masks part [] ≡ mask_of (64 * words) (slice_index_or parts part [])
