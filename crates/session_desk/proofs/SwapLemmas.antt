-- A swap of a desk that is alone.
use Rattle.std.proofs.Common.{◌≡◌, ◌≢◌, ◌↔◌, ℕ, ◌<◌, Bool, true, false, List, length, take, get_or, map, set, None, refl, sym, ap, subst, ◌∙◌, arith}
use Rattle.std.specs.Prelude.{◌&&◌, if◌then◌else◌}
use Rattle.std.proofs.lemmas.List.{length-map, length-take, set-get_or}
use Rattle.hamming_model.specs.History.{JournalEntry, rows_of, shard_rows}
use Rattle.hamming_model.specs.Recoded.{cut_entry, cut_history}
use Rattle.part_layout.specs.Laid.{Laid}
use Rattle.shard_version.specs.Contents.{Contents}
use Rattle.versioned_shard.specs.Along.{Follows}
use Rattle.versioned_shard.specs.Rule.{KeepsJournalRule}
use Rattle.versioned_shard.specs.Shards.{ShardState}
use Rattle.session_desk.specs.Calls.{IsMadeFor, Swaps, is_late, one_more}
use Rattle.session_desk.specs.Desks.{DeskState, ShardPlace, left_at, place_at}
use Rattle.session_desk.specs.Solos.{IsShardOf, IsSoloDesk, IsSwapped, SoloState, desk_of, no_shard, place_of, solo_of}
use Rattle.session_desk.proofs.SoloLemmas.{changed_left, changed_lefts, changed_places, learns_nothing, placed_there, shard_found, shard_of, solo_with}

-- the first entries of the history, in codes of so many bits
abbrev first_entries : SoloState → ℕ → ℕ → List JournalEntry
first_entries s at bits = take at (cut_history bits s.journal.history)

-- a version that was made apart follows the history
made_follows : (s : SoloState) (number : ℕ) (version : Contents) → IsMadeFor (desk_of s) number version → Follows s.journal.history version
made_follows s number version made = record {
  is = ap (λ (n : ℕ). (record version { at = n })) at_is
      ∙ ap (λ (rows : List (ℕ × List ℕ)). (record version { at = length (first_entries s version.at version.layout.bits); rows = rows })) rows_are;
}
  where
    at_is : version.at ≡ length (first_entries s version.at version.layout.bits)
    at_is = omega (
      arith,
      made.within,
      length-take version.at (cut_history version.layout.bits s.journal.history),
      length-map s.journal.history (cut_entry version.layout.bits),
    )

    rows_are : version.rows ≡ shard_rows version.shard version.shards (rows_of (first_entries s version.at version.layout.bits))
    rows_are =
        let is = made.version_is in
        is.rows
        ∙ ap (λ (n : ℕ). shard_rows n s.config.shards (rows_of (first_entries s version.at s.config.bits))) (sym is.shard_is)
        ∙ ap (λ (n : ℕ). shard_rows version.shard n (rows_of (first_entries s version.at s.config.bits))) (sym is.shards_are)
        ∙ ap (λ (n : ℕ). shard_rows version.shard version.shards (rows_of (first_entries s version.at n))) (sym is.bits_are)

module _ (words : ℕ) (s now : SoloState) (solo : IsSoloDesk words s) (is : s ≡ now) (number : ℕ) (low : number < now.config.shards)
    (found : ShardState) (at : found ≡ get_or s.shards number found) where
  low_here : number < s.config.shards
  low_here = subst (λ (t : SoloState). number < t.config.shards) (sym is) low

  here : found ≡ shard_of s number
  here = shard_found words s number found found solo low_here at

  own : IsShardOf s.config s.journal number found (get_or s.pins number None)
  own = subst (λ (shard : ShardState). IsShardOf s.config s.journal number shard (get_or s.pins number None)) (sym here) (solo.each number low_here)

  -- what swapping it needs
  pub swap_needs : (prepared : Contents) → IsMadeFor (desk_of now) number prepared
      → KeepsJournalRule s.journal found × ((prepared.shard ≡ found.current.shard) × ((prepared.shards ≡ found.current.shards)
      × ((prepared.layout.bits ≡ found.current.layout.bits) × Follows s.journal.history prepared)))
  swap_needs prepared made =
      let made_here = subst (λ (t : SoloState). IsMadeFor (desk_of t) number prepared) (sym is) made in
      let is_version = made_here.version_is in (
        own.rule,
        (
          is_version.shard_is ∙ sym own.shard_is,
          (
            is_version.shards_are ∙ sym own.shards_are,
            (is_version.bits_are ∙ sym own.bits_are, made_follows s number prepared made_here),
          ),
        ),
      )

  module _ (new : ShardState) (swapped : IsSwapped s.journal found new) where
    -- the desk after it
    pub now_swapped : (done late : ℕ) → IsSoloDesk words (solo_of s.config s.journal s.last (set s.shards number new) s.pins done late)
    now_swapped done late = solo_with words s solo number low_here new s.pins s.last done late refl (λ _ _. refl) (record {
      rule = swapped.rule;
      shard_is = swapped.shard_is ∙ own.shard_is;
      shards_are = swapped.shards_are ∙ own.shards_are;
      bits_are = swapped.bits_are ∙ own.bits_are;
      pinned = omega (arith, own.pinned, swapped.at_is);
    })

    stays_at : (done late : ℕ) → left_at (desk_of (solo_of s.config s.journal s.last (set s.shards number new) s.pins done late)) number ≡ found.current.at
    stays_at done late = changed_left words s solo number low_here new s.pins s.last done late ∙ swapped.at_is

    places_after : (moved : Bool) (prepared : Contents) → new.current.layout ≡ (if moved then found.current.layout else prepared.layout)
        → map place_of (set s.shards number new)
        ≡ (if moved then map place_of s.shards else set (map place_of s.shards) number ((place_at (desk_of s) number).0, prepared.layout))
    places_after true prepared layout =
        changed_places words s solo number low_here new
        ∙ ap (set (map place_of s.shards) number)
        (ap (λ (each : ℕ). let place : ShardPlace = (each, new.current.layout) in place) (swapped.at_is ∙ ap (λ (shard : ShardState). shard.current.at) here)
        ∙ ap (λ (laid : Laid). let place : ShardPlace = ((shard_of s number).current.at, laid) in place)
        (layout ∙ ap (λ (shard : ShardState). shard.current.layout) here)
        ∙ sym (placed_there s number))
        ∙ set-get_or (map place_of s.shards) number (place_of no_shard)
    places_after false prepared layout =
        changed_places words s solo number low_here new
        ∙ ap (set (map place_of s.shards) number)
        (ap (λ (each : ℕ). let place : ShardPlace = (each, new.current.layout) in place)
        (swapped.at_is ∙ ap (λ (shard : ShardState). shard.current.at) here ∙ sym (ap (λ (place : ShardPlace). place.0) (placed_there s number)))
        ∙ ap (λ (laid : Laid). let place : ShardPlace = ((place_at (desk_of s) number).0, laid) in place) layout)

    -- what it did
    pub now_swaps : (moved : Bool) (prepared : Contents) (done late : ℕ) → new.current.layout ≡ (if moved then found.current.layout else prepared.layout)
        → moved ≡ true ↔ (prepared.at ≢ found.current.at) → done ≡ (if moved then s.done else one_more s.done)
        → late ≡ (if moved && is_late s.last prepared.at found.current.at then one_more s.late else s.late)
        → Swaps (desk_of now) (desk_of (solo_of s.config s.journal s.last (set s.shards number new) s.pins done late)) number prepared moved
    now_swaps moved prepared done late layout moved_is done_is late_is =
        subst (λ (t : SoloState). Swaps (desk_of t) after number prepared moved) is (record {
          learns = learns_nothing (desk_of s);
          moved_is = subst (λ (n : ℕ). moved ≡ true ↔ (prepared.at ≢ n)) (sym (stays_at done late)) moved_is;
          pinned = omega (arith, own.pinned, stays_at done late);
          after =
              ap (λ (left : List ℕ). (record after { left = left })) (changed_lefts words s solo number low_here new s.pins s.last done late)
              ∙ ap (λ (n : ℕ). (record after {
                left = set (map (λ (shard : ShardState). shard.current.at) s.shards) number (left_at after number);
                done = n;
              })) done_is
              ∙ ap (λ (n : ℕ). (record after {
                left = set (map (λ (shard : ShardState). shard.current.at) s.shards) number (left_at after number);
                done = (if moved then s.done else one_more s.done);
                late = n;
              }))
              (subst (λ (n : ℕ). late ≡ (if moved && is_late s.last prepared.at n then one_more s.late else s.late)) (sym (stays_at done late)) late_is);
          places = λ alone. places_after moved prepared layout;
          stays = λ alone. stays_at done late ∙ ap (λ (shard : ShardState). shard.current.at) here
              ∙ sym (ap (λ (place : ShardPlace). place.0) (placed_there s number));
        })
      where
        after : DeskState
        after = desk_of (solo_of s.config s.journal s.last (set s.shards number new) s.pins done late)
