-- What the options ask for can be asked of a session.
use Rattle.std.proofs.Common.{◌≡◌, ℕ, ◌*◌, ◌/◌, ◌≤◌, cond, List, Option, Some, None, unwrap_or, Result, Ok, Err, refl, ap, ◌∙◌, arith}
use Rattle.std.specs.Option.{option_map, option_and_then}
use Rattle.std.proofs.lemmas.Bool.{le-leb}
use Rattle.part_layout.specs.Contiguous.{CanBeCut, can_be_cut}
use Rattle.part_layout.specs.Ranges.{IsConfig}
use Rattle.command_line.specs.CommandWords.{number_given, number_or, config, parts_for, config_of}
use Rattle.command_line.specs.WrittenOptions.{Written, given}
use Rattle.command_line.specs.Kept.{given_option, entry_number_or, entry_parts_or, options_kept, IsNumberOf}
use Rattle.command_line.specs.declared.given.Given.{Given}
use Rattle.command_line.specs.declared.command_option.CommandOption.{CommandOption}
use Rattle.command_line.specs.declared.command_option.CommandOption.TheVariants.{Bits, Parts, Shards, Room, Entries, Input}
use Rattle.part_layout.specs.declared.config.Config.{Config}

-- parts of eight bits each
pub cut_by_bytes : (bits : ℕ) → IsNumberOf Bits bits → CanBeCut bits (bits / 8)
cut_by_bytes bits within =
    let least : 8 ≤ bits = within.0 in
    let most : bits ≤ 256 = within.1 in
    let whole = within.2 in
    let some = le-leb 1 (bits / 8) (omega (arith, whole)) in
    let few = le-leb (bits / 8) 64 (omega arith) in
    let filled = le-leb (bits / 8) bits (omega arith) in
    let narrow = le-leb bits (12 * (bits / 8)) (omega (arith, whole)) in
    rw (some, few, filled, narrow) refl

-- what is asked for
pub config_within : (config : Config) → IsNumberOf Bits config.bits → CanBeCut config.bits config.parts → IsNumberOf Shards config.shards
    → IsNumberOf Room config.room → IsNumberOf Entries config.entries → IsNumberOf Input config.input → IsConfig config
config_within config of_bits cut of_shards of_room of_entries of_input = record {
  least_bits = of_bits.0;
  greatest_bits = of_bits.1;
  whole_bytes = of_bits.2;
  cut = cut;
  some_shards = of_shards.0;
  few_shards = of_shards.1;
  some_room = of_room.0;
  small_room = of_room.1;
  some_entries = of_entries.0;
  few_entries = of_entries.1;
  least_input = of_input.0;
  greatest_input = of_input.1;
}

-- the number that is kept of an option
kept_number : (option : CommandOption) (default : ℕ) (found : Option Written)
    → entry_number_or default (option_map (given_option option) found) ≡ unwrap_or (option_and_then (number_given option) found) default
kept_number option default None = refl
kept_number option default (Some one) = refl

-- the parts that are kept
abbrev parts_found : ℕ → Option Written → Result ℕ ℕ
parts_found bits found = elim found [ None ↦ Ok (bits / 8) | Some one ↦ parts_for bits one ]

abbrev judged_at : ℕ → ℕ → Option ℕ → Result ℕ ℕ
judged_at bits place number =
    elim number [ None ↦ Err place | Some parts ↦ cond (can_be_cut bits parts) (Ok parts) (Err place) ]

kept_parts : (bits : ℕ) (found : Option Written) → entry_parts_or bits (option_map (given_option Parts) found) ≡ parts_found bits found
kept_parts bits None = refl
kept_parts bits (Some one) = refl

-- what a session is asked to be with some parts
abbrev with_parts : ℕ → List Written → Result ℕ ℕ → Result Config ℕ
with_parts bits settings parts = elim parts [ Err place ↦ Err place | Ok parts ↦ Ok (config bits parts settings) ]

-- what is asked for, from what is kept
pub config_value : (given : Given) (settings : List Written) (bits parts shards room entries input : ℕ) → given ≡ options_kept settings
    → bits ≡ entry_number_or 64 given.bits → Ok parts ≡ entry_parts_or bits given.parts → shards ≡ entry_number_or 4 given.shards
    → room ≡ entry_number_or 64 given.room → entries ≡ entry_number_or 1048576 given.entries → input ≡ entry_number_or 4294967296 given.input
    → ◌≡◌ {A = Result Config ℕ}
    (Ok (record { bits = bits; parts = parts; shards = shards; room = room; entries = entries; input = input })) (config_of settings)
config_value kept settings bits parts shards room entries input same of_bits of_parts of_shards of_room of_entries of_input =
    let bits_is : bits ≡ number_or Bits 64 settings =
    of_bits ∙ ap (λ (values : Given). entry_number_or 64 values.bits) same ∙ kept_number Bits 64 (given Bits settings) in
    let shards_is : shards ≡ number_or Shards 4 settings =
    of_shards ∙ ap (λ (values : Given). entry_number_or 4 values.shards) same ∙ kept_number Shards 4 (given Shards settings) in
    let room_is : room ≡ number_or Room 64 settings =
    of_room ∙ ap (λ (values : Given). entry_number_or 64 values.room) same ∙ kept_number Room 64 (given Room settings) in
    let entries_is : entries ≡ number_or Entries 1048576 settings =
    of_entries ∙ ap (λ (values : Given). entry_number_or 1048576 values.entries) same ∙ kept_number Entries 1048576 (given Entries settings) in
    let input_is : input ≡ number_or Input 4294967296 settings =
    of_input ∙ ap (λ (values : Given). entry_number_or 4294967296 values.input) same ∙ kept_number Input 4294967296 (given Input settings) in
    let parts_is : Ok parts ≡ parts_found bits (given Parts settings) =
    of_parts ∙ ap (λ (values : Given). entry_parts_or bits values.parts) same ∙ kept_parts bits (given Parts settings) in
    let whole : with_parts bits settings (Ok parts) ≡ config_of settings =
    ap (with_parts bits settings) parts_is ∙ ap (λ n. with_parts n settings (parts_found n (given Parts settings))) bits_is in
    rw (shards_is, room_is, entries_is, input_is) whole
