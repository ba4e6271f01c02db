-- Lemmas on the last pins: what a line leaves of them, what is told of the query that was opened last, and one exchange more.
use Rattle.std.proofs.Common.{◌≡◌, ℕ, ◌<◌, ◌&&◌, not, Bool, true, false, cond, Option, Some, None, Ok}
use Rattle.std.proofs.Common.{List, [], ◌∷◌, ◌++◌, length, reverse, slice_index_or, refl, sym, ap, ◌∙◌, subst, arith, inl, inr}
use Rattle.std.specs.List.{find}
use Rattle.std.proofs.lemmas.Bool.{and_parts}
use Rattle.std.proofs.lemmas.List.{reverse-append}
use Rattle.hamming_model.specs.Scan.{Ask}
use Rattle.hamming_model.specs.Scan as ask
use Rattle.part_layout.specs.Text.{layout_text}
use Rattle.part_layout.specs.declared.config.Config.{Config}
use Rattle.query_protocol.specs.Requests.{LineReading}
use Rattle.query_protocol.specs.Lines.{reading}
use Rattle.query_protocol.specs.Replies.{LineReply}
use Rattle.session_desk.specs.Desks.{DeskState}
use Rattle.session_model.specs.Entries.{Exchange}
use Rattle.session_model.specs.Ledger.{layout_at}
use Rattle.session_model.specs.Told.{ShardLayouts, ToldLayout, last_told, told_from}
use Rattle.session_model.proofs.ToldLemmas.{IsLastOr, last_pinned, told_last}
use Rattle.open_session.specs.LastPins.{ArePinsTold, LeavesPins, TellsLastPins}
use Rattle.open_session.specs.LastPins.{last_pinning, may_pin, met_bad, pins_shards, was_opened}
use Rattle.open_session.specs.Pinned.{PinnedSoFar, TellsPinned}
use Rattle.open_session.specs.Questions.{opening_request}

never : false ≡ true → ⊥
never is = cc

other : true ≡ false → ⊥
other is = cc

-- ---- what a line leaves

and_false : (b : Bool) → (b && false) ≡ false
and_false true = refl
and_false false = refl

-- a line opens nothing that is told otherwise
pub opens_none : (asked : LineReading) (replies : List LineReply) → was_opened replies ≡ false
    → (may_pin asked && was_opened replies) ≡ false
opens_none asked replies is = ap (λ b. may_pin asked && b) is ∙ and_false (may_pin asked)

-- a line that opens a query may pin shards
pub opening_pins : (tag : List ℕ) (asked : Ask) → may_pin (Ok (Some (opening_request tag asked))) ≡ true
opening_pins tag (ask.Range tau code) = refl
opening_pins tag (ask.Near number code) = refl

module _ (asked : LineReading) (replies : List LineReply) (at : ℕ) (old new : DeskState) (before after : PinnedSoFar) where
  -- where no query is opened, and nothing is pinned or told
  pub pins_still : (may_pin asked && was_opened replies) ≡ false → new.pins ≡ old.pins → after ≡ before
      → LeavesPins asked replies at old new before after
  pins_still none pins told = record {
    kept = λ is. record { pins = pins; told = told };
    opened = λ is. absurd (never (sym none ∙ is));
  }

  -- where no query is opened, and shards are pinned
  pub pins_moved : (may_pin asked && was_opened replies) ≡ false → pins_shards asked replies ≡ true
      → LeavesPins asked replies at old new before after
  pins_moved none moves = record {
    kept = λ is. absurd (other (sym moves ∙ is));
    opened = λ is. absurd (never (sym none ∙ is));
  }

  -- where a query is opened
  pub pins_opened : pins_shards asked replies ≡ true → ArePinsTold new after.told at
      → LeavesPins asked replies at old new before after
  pins_opened moves told = record { kept = λ is. absurd (other (sym moves ∙ is)); opened = λ is. told }

-- ---- what is told last

last_more : (before : ShardLayouts) (pinned : List ShardLayouts) (layouts : ShardLayouts)
    → last_pinned before (pinned ++ layouts ∷ []) ≡ layouts
last_more before [] layouts = refl
last_more before (first ∷ pinned) layouts = last_more first pinned layouts

told_there : (shard : ℕ) (items : List ToldLayout) (last : ShardLayouts) → IsLastOr shard shard items [] last
    → last_told shard items ≡ Some (layout_at last shard)
told_there shard items last (inl is) = is
told_there shard items last (inr is) = absurd (omega (arith, is.1))

-- what is told last of a shard is what the last query pinned there
pub told_of_last : (shards : ℕ) (now : PinnedSoFar) (pinned : List ShardLayouts) (layouts : ShardLayouts)
    → length layouts ≡ shards → TellsPinned shards now (pinned ++ layouts ∷ []) → (shard : ℕ) → shard < shards
    → last_told shard now.told ≡ Some (layout_at layouts shard)
told_of_last shards now pinned layouts long tells shard lt =
    let all = pinned ++ layouts ∷ [] in
    let last = last_more [] pinned layouts in
    ap (last_told shard) tells.told
    ∙ told_there shard (told_from 0 [] all) (last_pinned [] all)
    (told_last shards shard 0 [] all tells.each lt (omega (arith, lt, long, ap length last)))
    ∙ ap (λ l. Some (layout_at l shard)) last

-- ---- one exchange more

no_exchange : (e : Exchange) → None ≡ Some e → ⊥
no_exchange e is = cc

-- no exchange pins a shard
pub tells_no_pins : (config : Config) (desk : DeskState) (told : List ToldLayout) → TellsLastPins config [] desk told
tells_no_pins config desk told = λ e found opened. absurd (no_exchange e found)

same_exchange : (e last : Exchange) → Some e ≡ Some last → e ≡ last
same_exchange e last is = cc

module _ (config : Config) (exchanges : List Exchange) (e : Exchange) where
  abbrev here : Bool
  here = pins_shards (reading config e.line) e.replies

  last_with : last_pinning config (exchanges ++ e ∷ []) ≡ cond here (Some e) (last_pinning config exchanges)
  last_with =
      ap (find (λ (x : Exchange). pins_shards (reading config x.line) x.replies)) (reverse-append exchanges (e ∷ []))

  module _ (old new : DeskState) (before after : PinnedSoFar) (same : new.config ≡ old.config)
      (tells : TellsLastPins config exchanges old before.told)
      (leaves : LeavesPins (reading config e.line) e.replies e.position old new before after) where
    pins_by : (pins : Bool) → here ≡ pins → (last : Exchange)
        → cond pins (Some e) (last_pinning config exchanges) ≡ Some last → was_opened last.replies ≡ true
        → ArePinsTold new after.told last.position
    pins_by true is last found opened =
        let this = same_exchange e last found in
        let parts = and_parts (may_pin (reading config e.line)) (not (met_bad e.replies)) is in
        let its : was_opened e.replies ≡ true = ap (λ (x : Exchange). was_opened x.replies) this ∙ opened in
        subst (λ (x : Exchange). ArePinsTold new after.told x.position) this
        (leaves.opened (ap (λ b. b && was_opened e.replies) parts.0 ∙ its))
    pins_by false is last found opened = λ shard lt.
        let kept = leaves.kept is in
        let it = tells last found opened shard (omega (arith, lt, ap (λ (c : Config). c.shards) same)) in
        record {
          layout = it.layout;
          told_last = ap (λ (p : PinnedSoFar). last_told shard p.told) kept.told ∙ it.told_last;
          pinned_last = ap (λ pins. slice_index_or pins shard None) kept.pins ∙ it.pinned_last;
        }

    pub tells_more : TellsLastPins config (exchanges ++ e ∷ []) new after.told
    tells_more last found opened = pins_by here refl last (sym last_with ∙ found) opened
