-- Lemmas on `swap`: what it tells is a step of a session.
use Rattle.std.proofs.Common.{◌≡◌, ℕ, ◌+◌, ◌-◌, ◌*◌, ◌<◌, ◌≤◌, nat_lt, Bool, true, false, List, [], ◌∷◌, ◌++◌}
use Rattle.std.proofs.Common.{length, slice_set, Option, Some, None, Result, Ok, refl, sym, ap, ◌∙◌}
use Rattle.std.proofs.Common.{subst, inl, inr, arith}
use Rattle.std.proofs.Math.Nat.{add-mul}
use Rattle.std.proofs.lemmas.List.{length-set, map-set}
use Rattle.std.proofs.lemmas.Bool.Decides.{nat_tests}
use Rattle.line_io.specs.declared.source.Failed.{Failed}
use Rattle.hamming_model.specs.History.{JournalEntry}
use Rattle.hamming_model.specs.Layouts.{IsLayout}
use Rattle.part_layout.specs.Laid.{Laid}
use Rattle.part_layout.specs.declared.config.Config.{Config}
use Rattle.query_protocol.specs.Requests.{bad, Swap}
use Rattle.query_protocol.specs.Replies.{reply_line, LineReply}
use Rattle.query_protocol.specs.Replies as reply
use Rattle.query_opening.specs.Pinning.{ComesOn}
use Rattle.session_desk.specs.Calls.{Learns}
use Rattle.session_desk.specs.Desks.{DeskState, ShardPlace, no_place, pinned_at, place_at, seen_history}
use Rattle.session_model.specs.State.{Build, State, open_queries}
use Rattle.session_model.specs.Builds.{IfBuilding, SwapsIfPlaced, SwapsUnlessLeft}
use Rattle.session_model.specs.Entries.{Exchange}
use Rattle.open_queries.specs.Writing.{Writes}
use Rattle.shard_rebuild.specs.Swapping.{ComesByFront, with_late, with_swap}
use Rattle.version_draft.specs.Unfinished.{Unfinished}
use Rattle.open_session.specs.declared.shard_build.ShardBuild.{ShardBuild}
use Rattle.open_session.specs.KeptBuild.{IsBuildKept, MeansBuild, StandsFrom, left_in}
use Rattle.open_session.specs.KeptDesk.{layouts_of}
use Rattle.open_session.specs.Meaning.{AllKeep, Means}
use Rattle.open_session.specs.Moments.{Moment, ReadsTo, Spends}
use Rattle.build_requests.specs.Rebuilding.{WasOtherBuild, kept_build}
use Rattle.build_requests.specs.SwappingIn.{HadPlaced, HadRowsLeft, HasLacked, HasMoved, HasSwapped, SwapsInAs}
use Rattle.open_session.proofs.Here.{Here, asked_here, exchange_here, inside_of, means_to, pinned_still, samples_here, whole_here}
use Rattle.open_session.proofs.Here.{within_here, within_new, writes_one}
use Rattle.open_session.proofs.MomentLemmas.{as_long, reads_still, seen_longer, seen_whole}
use Rattle.open_session.proofs.DeskLemmas.{fewer_beyond, keeps, same_list, with_layout}
use Rattle.build_requests.proofs.StartLemmas.{beyond_one}
use Rattle.open_session.proofs.LastPinsLemmas.{pins_moved}
use Rattle.open_session.proofs.WholeLemmas.{WholeTo, leaves, no_build, some_build, still_whole, whole_by}

-- ---- rows left

left_by : (left : ℕ) (some : Bool) → nat_lt 0 left ≡ some → 0 < left → nat_lt 0 left ≡ true
left_by left true is lt = is
left_by left false is lt = grind (arith, nat_tests)

none_left_by : (left : ℕ) (some : Bool) → nat_lt 0 left ≡ some → left ≡ 0 → nat_lt 0 left ≡ false
none_left_by left false is none = is
none_left_by left true is none = grind (arith, nat_tests)

module _ {A : Type 0} {W : ℕ} (p : Here W) (after : Option (List ℕ)) (result : Result A Failed)
    (new : Moment W) (this : LineReply) (is : asked_here p ≡ Ok (Some Swap))
    (wrote : Writes p.before after result (reply_line this)) where
  abbrev Swapping : Option Build → List JournalEntry → Exchange → State → Type 0
  Swapping build history e t = IfBuilding build (SwapsIfPlaced history) p.s e t

  -- an answer on the build that there is, by whether rows are left
  judged : (build : Build) (left : Bool) → p.s.build ≡ Some build → nat_lt 0 build.left ≡ left
      → (history : List JournalEntry) (e : Exchange) (t : State)
      → SwapsUnlessLeft left history build p.s e t → Swapping p.s.build history e t
  judged build left found same history e t swaps =
      subst (λ b. Swapping b history e t) (sym found)
      (subst (λ l. SwapsUnlessLeft l history build p.s e t) (sym same) swaps)

  no_swap : p.old.build ≡ None → WasOtherBuild p.old new this → WholeTo p after result new
  no_swap none was =
      let missing = no_build W p.old.desk p.s.build (subst (λ b. MeansBuild p.old.desk b p.s.build) none p.stands.build) in
      subst (λ m. WholeTo p after result m) (sym was.same)
      (still_whole p after result (Ok (Some Swap)) (reply.Bad (bad 10)) is refl
      (record { steps = λ told. refl; at = λ told. refl; moved = refl; swapped = refl }) refl
      (λ later. subst (λ b. Swapping b (p.history ++ later) (exchange_here p p.old (reply.Bad (bad 10) ∷ []) p.s.position) p.s)
      (sym missing) (record { said_is = refl; position = refl; same = refl }))
      (subst (λ r. Writes p.before after result (reply_line r)) was.told wrote))

  -- the build of the state is the one in memory
  found_of : (kept : ShardBuild W) → p.old.build ≡ Some kept
      → (b : Build) × (p.s.build ≡ Some b) × MeansBuild p.old.desk (Some kept) (Some b)
  found_of kept was =
      some_build p.old.desk kept p.s.build (subst (λ b. MeansBuild p.old.desk b p.s.build) was p.stands.build)

  rows_left : HadRowsLeft W p.old new this → WholeTo p after result new
  rows_left had =
      let found = found_of had.kept had.was in
      let some : nat_lt 0 found.0.left ≡ true =
      left_by found.0.left (nat_lt 0 found.0.left) refl (omega (arith, had.left, found.2.left)) in
      subst (λ m. WholeTo p after result m) (sym had.same)
      (still_whole p after result (Ok (Some Swap)) (reply.Bad (bad 11)) is refl
      (record { steps = λ told. refl; at = λ told. refl; moved = refl; swapped = refl }) refl
      (λ later. judged found.0 true found.1 some (p.history ++ later)
      (exchange_here p p.old (reply.Bad (bad 11) ∷ []) p.s.position) p.s
      (record { said_is = refl; position = refl; same = refl }))
      (subst (λ r. Writes p.before after result (reply_line r)) had.told wrote))

  -- ---- want of memory

  module _ (has : HasLacked W p.old new this) where
    abbrev lacking : (b : Build) × (p.s.build ≡ Some b)
        × MeansBuild p.old.desk (Some (kept_build {W = W} has.shard has.build)) (Some b)
    lacking = found_of (kept_build has.shard has.build) has.had.was

    abbrev goes_on : IsBuildKept new.desk (kept_build {W = W} has.shard has.back) lacking.0
    goes_on = record {
      shard = lacking.2.shard;
      of_desk = record {
        inside = omega (arith, lacking.2.of_desk.inside, ap (λ (c : Config). c.shards) has.lacks.comes.config);
        of_shard = has.lacks.goes_on.of_shard;
      };
      layout = ap (λ (l : Laid). l.parts) has.lacks.goes_on.layout ∙ lacking.2.layout;
      left = has.lacks.goes_on.placed ∙ sym has.had.placed ∙ lacking.2.left;
    }

    lacked : WholeTo p after result new
    lacked =
        let s = p.s in
        let over = has.had.over in
        let comes = has.lacks.comes in
        let kept = keeps W p.old.desk new.desk over.before over.after comes in
        let learns = comes.learns in
        let seen = length new.desk.seen in
        let none : nat_lt 0 lacking.0.left ≡ false =
        none_left_by lacking.0.left (nat_lt 0 lacking.0.left) refl (sym lacking.2.left ∙ has.had.placed) in
        let replies = reply.NoMemory ∷ [] in
        whole_by p after result new (Ok (Some Swap)) replies s is refl s.position learns (λ alone. refl)
        (λ later. judged lacking.0 false lacking.1 none (seen_history new.desk ++ later) (exchange_here p new replies s.position) s
        (inl (record { said_is = refl; position = refl; same = refl })))
        (λ alone. refl)
        (writes_one p.before after result reply.NoMemory
        (subst (λ r. Writes p.before after result (reply_line r)) has.told wrote))
        (subst (λ l. ReadsTo p.old.ledgers.reads l s.queries s.queries) (sym over.reads)
        (reads_still p.old.ledgers.reads s.queries))
        (λ from stands. record {
          spent = record {
            longer = seen_longer p.old.desk new.desk.seen learns;
            within = λ most le.
                let pins = fewer_beyond W p.old.desk new.desk over.before over.after comes most in
                let all : (p.config.shards + 2) * seen ≡ p.config.shards * seen + 2 * seen = add-mul p.config.shards 2 seen in
                omega (arith, has.steps, pins, all, ap left_in has.kept, has.lacks.goes_on.placed);
          };
          stands = subst (StandsFrom from) (sym has.kept)
              (omega (arith, has.lacks.goes_on.never_back, subst (StandsFrom from) has.had.was stands));
        })
        p.stands.settled (samples_here p new s.queries over.samples refl)
        (means_to p new.desk s kept (within_new p new.desk learns) (λ alone. sym (whole_here p new.desk learns alone)) refl refl)
        (subst (λ b. MeansBuild new.desk b s.build) (sym has.kept)
        (subst (MeansBuild new.desk (Some (kept_build has.shard has.back))) (sym lacking.1) goes_on))
        (leaves p.old.desk new.desk kept) kept.done kept.late
        (subst (λ l. AllKeep p.config p.history l (open_queries s.queries)) (sym over.cursors) p.stands.keep)
        (pinned_still p new s over.pinned refl)
        (pins_moved (Ok (Some Swap)) replies s.position p.old.desk new.desk p.old.pinned new.pinned refl refl)
        (has.position ∙ p.stands.position)

  -- ---- a build and its shard came to a front

  -- the build there, and what is spent by it and for it up to the front
  module _ (from : DeskState) (shard position : ℕ) (build : Unfinished) (had : HadPlaced W p.old new shard build)
      (found : (b : Build) × (p.s.build ≡ Some b) × MeansBuild p.old.desk (Some (kept_build {W = W} shard build)) (Some b))
      (comes : ComesByFront from new.desk shard position) (seen : from.seen ≡ p.old.desk.seen)
      (number : length new.desk.pins ≡ length p.old.desk.pins)
      (learns : Learns p.old.desk new.desk.seen) where
    -- where the desk is alone, the front is at all that was seen
    front_whole : p.old.desk.alone ≡ true → position ≡ length new.desk.seen
    front_whole alone = omega (
      arith,
      comes.after,
      comes.within,
      ap length seen,
      ap length (seen_whole p.old.desk new.desk.seen learns alone),
    )

    not_before_front : p.s.position ≤ position
    not_before_front = omega (arith, within_here p, comes.after, ap length seen)

    front_spends : (told : ℕ) → StandsFrom told p.old.build
        → new.ledgers.upkeep ≤ p.old.ledgers.upkeep + (position - pinned_at p.old.desk shard) + (position - build.contents.at)
        → left_in new.build ≡ 0
        → Spends p.old.desk new.desk (p.old.ledgers.upkeep + left_in p.old.build) (new.ledgers.upkeep + left_in new.build)
        (0 + (position - told))
    front_spends told stands steps none = record {
      longer = seen_longer p.old.desk new.desk.seen learns;
      within = λ most le.
          let lt : shard < length p.old.desk.pins = omega (arith, found.2.of_desk.inside, had.over.before.pins) in
          let before = had.over.before.pinned_within shard found.2.of_desk.inside in
          let pins = beyond_one position most (omega (arith, comes.within, le))
          p.old.desk.pins new.desk.pins shard number lt had.over.others comes.pinned
          (omega (arith, before, comes.after, ap length seen)) in
          let stood = subst (StandsFrom told) had.was stands in
          omega (arith, steps, pins, stood, ap left_in had.was, had.placed, none);
    }

  -- ---- a build whose shard stood beyond it

  module _ (has : HasMoved W p.old new this) where
    abbrev beyond : (b : Build) × (p.s.build ≡ Some b)
        × MeansBuild p.old.desk (Some (kept_build {W = W} has.shard has.build)) (Some b)
    beyond = found_of (kept_build has.shard has.build) has.had.was

    abbrev late_desk : DeskState
    late_desk = with_late p.old.desk

    comes_late : ComesOn late_desk new.desk
    comes_late = has.finds.comes.comes

    learns_late : Learns p.old.desk new.desk.seen
    learns_late = record {
      more = comes_late.learns.more;
      longer = comes_late.learns.longer;
      others = comes_late.learns.others;
      all = comes_late.learns.all;
    }

    abbrev moved_state : State
    moved_state = record p.s { position = new.position }

    means_moved : Means p.config new.desk (seen_history new.desk) moved_state
    means_moved = record {
      config_is = comes_late.config ∙ p.stands.means.config_is;
      history_is = refl;
      within = omega (arith, has.finds.comes.within, as_long new.desk);
      whole = λ alone. absurd (has.shared (sym comes_late.alone ∙ alone));
      who = p.stands.means.who ∙ sym comes_late.who;
      layouts = λ alone. absurd (has.shared (sym comes_late.alone ∙ alone));
      are_layouts = p.stands.means.are_layouts;
    }

    abbrev still_built : IsBuildKept new.desk (kept_build {W = W} has.shard has.back) beyond.0
    still_built = record {
      shard = beyond.2.shard;
      of_desk = record {
        inside = omega (arith, beyond.2.of_desk.inside, ap (λ (c : Config). c.shards) comes_late.config);
        of_shard = has.finds.goes_on.of_shard;
      };
      layout = ap (λ (l : Laid). l.parts) has.finds.goes_on.layout ∙ beyond.2.layout;
      left = has.finds.goes_on.placed ∙ sym has.had.placed ∙ beyond.2.left;
    }

    moved : WholeTo p after result new
    moved =
        let s = p.s in
        let over = has.had.over in
        let at = new.position in
        let none : nat_lt 0 beyond.0.left ≡ false =
        none_left_by beyond.0.left (nat_lt 0 beyond.0.left) refl (sym beyond.2.left ∙ has.had.placed) in
        let said : LineReply = reply.Moved beyond.0.shard at has.shard_at in
        let same : this ≡ said = has.told ∙ ap (λ n. reply.Moved n at has.shard_at) beyond.2.shard in
        whole_by p after result new (Ok (Some Swap)) (said ∷ []) moved_state is refl at learns_late
        (λ alone. absurd (has.shared alone))
        (λ later. judged beyond.0 false beyond.1 none (seen_history new.desk ++ later) (exchange_here p new (said ∷ []) at) moved_state
        (inr (inr (record {
          not_before = not_before_front late_desk has.shard at has.build has.had beyond has.finds.comes refl comes_late.number learns_late;
          within = inside_of new.desk later at has.finds.comes.within;
          shard_at = has.shard_at;
          beyond = has.finds.beyond;
          said_is = refl;
          stays = refl;
        }))))
        (λ alone. absurd (has.shared alone))
        (writes_one p.before after result said (subst (λ r. Writes p.before after result (reply_line r)) same wrote))
        (subst (λ l. ReadsTo p.old.ledgers.reads l s.queries s.queries) (sym over.reads)
        (reads_still p.old.ledgers.reads s.queries))
        (λ told stands. record {
          spent = front_spends late_desk has.shard at has.build has.had beyond has.finds.comes refl comes_late.number learns_late
              told stands has.steps (ap left_in has.kept ∙ has.finds.goes_on.placed);
          stands = subst (StandsFrom at) (sym has.kept) (omega (arith, has.finds.at));
        })
        p.stands.settled (samples_here p new s.queries over.samples refl) means_moved
        (subst (λ b. MeansBuild new.desk b s.build) (sym has.kept)
        (subst (MeansBuild new.desk (Some (kept_build has.shard has.back))) (sym beyond.1) still_built))
        (record {
          board = comes_late.board;
          who = comes_late.who;
          config = comes_late.config;
          fronts = comes_late.fronts;
          late = λ alone. absurd (has.shared alone);
          alone = comes_late.alone;
        })
        comes_late.done comes_late.late
        (subst (λ l. AllKeep p.config p.history l (open_queries s.queries)) (sym over.cursors) p.stands.keep)
        (pinned_still p new moved_state over.pinned refl)
        (pins_moved (Ok (Some Swap)) (said ∷ []) at p.old.desk new.desk p.old.pinned new.pinned refl refl) refl

  -- ---- a build that is put in place

  module _ (has : HasSwapped W p.old new this) where
    abbrev put : (b : Build) × (p.s.build ≡ Some b)
        × MeansBuild p.old.desk (Some (kept_build {W = W} has.shard has.build)) (Some b)
    put = found_of (kept_build has.shard has.build) has.had.was

    abbrev swapped_desk : DeskState
    swapped_desk = with_swap p.old.desk has.shard has.build.contents.layout

    comes : ComesOn swapped_desk new.desk
    comes = has.swaps.comes.comes

    learns_swap : Learns p.old.desk new.desk.seen
    learns_swap = record {
      more = comes.learns.more;
      longer = comes.learns.longer;
      others = comes.learns.others;
      all = comes.learns.all;
    }

    abbrev put_state : State
    put_state = record p.s {
      position = new.position;
      layouts = slice_set p.s.layouts put.0.shard put.0.layout;
      build = None;
    }

    -- where the desk is alone, the layouts are those of the state, with the build's in the place of the shard's
    layouts_put : p.old.desk.alone ≡ true → put_state.layouts ≡ layouts_of new.desk
    layouts_put alone =
        let places = p.old.desk.places in
        let place : ShardPlace = ((place_at p.old.desk has.shard).0, has.build.contents.layout) in
        let after = has.had.over.after in
        let before = has.had.over.before in
        let number : length new.desk.places ≡ length (slice_set places has.shard place) =
        after.places (comes.alone ∙ alone) ∙ ap (λ (c : Config). c.shards) comes.config
        ∙ sym (before.places alone) ∙ sym (length-set places has.shard place) in
        let same = same_list (λ (place : ShardPlace). place.1.parts) new.desk.places (slice_set places has.shard place)
        no_place number (λ i lt. ap (λ (l : Laid). l.parts) (comes.layouts alone i)) in
        ap (λ l. slice_set l put.0.shard put.0.layout) (p.stands.means.layouts alone)
        ∙ ap (λ n. slice_set (layouts_of p.old.desk) n put.0.layout) (sym put.2.shard)
        ∙ ap (slice_set (layouts_of p.old.desk) has.shard) (sym put.2.layout)
        ∙ sym (map-set (λ (place : ShardPlace). place.1.parts) places has.shard place)
        ∙ sym same

    -- the build's layout is one
    is_layout : IsLayout p.config.bits put.0.layout
    is_layout =
        let made = put.2.of_desk.of_shard.version_is in
        subst (IsLayout p.config.bits) put.2.layout
        (subst (λ bits. IsLayout bits has.build.contents.layout.parts)
        (made.bits_are ∙ ap (λ (c : Config). c.bits) p.stands.means.config_is) made.sound.laid.layout)

    whole_put : p.old.desk.alone ≡ true → new.position ≡ length new.desk.seen
    whole_put =
        front_whole swapped_desk has.shard new.position has.build has.had put has.swaps.comes refl comes.number learns_swap

    means_put : Means p.config new.desk (seen_history new.desk) put_state
    means_put = record {
      config_is = comes.config ∙ p.stands.means.config_is;
      history_is = refl;
      within = omega (arith, has.swaps.comes.within, as_long new.desk);
      whole = λ alone. whole_put (sym comes.alone ∙ alone) ∙ sym (as_long new.desk);
      who = p.stands.means.who ∙ sym comes.who;
      layouts = λ alone. layouts_put (sym comes.alone ∙ alone);
      are_layouts = with_layout p.s.layouts put.0.shard put.0.layout p.config p.stands.means.are_layouts is_layout;
    }

    put_in_place : WholeTo p after result new
    put_in_place =
        let s = p.s in
        let over = has.had.over in
        let at = new.position in
        let none : nat_lt 0 put.0.left ≡ false =
        none_left_by put.0.left (nat_lt 0 put.0.left) refl (sym put.2.left ∙ has.had.placed) in
        let said : LineReply = reply.Swapped put.0.shard at in
        let same : this ≡ said = has.told ∙ ap (λ n. reply.Swapped n at) put.2.shard in
        whole_by p after result new (Ok (Some Swap)) (said ∷ []) put_state is refl at learns_swap
        (λ alone. whole_put alone ∙ whole_here p new.desk learns_swap alone)
        (λ later. judged put.0 false put.1 none (seen_history new.desk ++ later) (exchange_here p new (said ∷ []) at) put_state
        (inr (inl (record {
          not_before = not_before_front swapped_desk has.shard at has.build has.had put has.swaps.comes refl comes.number learns_swap;
          within = inside_of new.desk later at has.swaps.comes.within;
          said_is = refl;
          swapped = refl;
        }))))
        (λ alone. refl)
        (writes_one p.before after result said (subst (λ r. Writes p.before after result (reply_line r)) same wrote))
        (subst (λ l. ReadsTo p.old.ledgers.reads l s.queries s.queries) (sym over.reads)
        (reads_still p.old.ledgers.reads s.queries))
        (λ told stands. record {
          spent = front_spends swapped_desk has.shard at has.build has.had put has.swaps.comes refl comes.number learns_swap
              told stands has.steps (ap left_in has.gone);
          stands = subst (StandsFrom told) (sym has.gone) tt;
        })
        p.stands.settled (samples_here p new s.queries over.samples refl) means_put (subst (λ b. MeansBuild new.desk b put_state.build) (sym has.gone) tt)
        (record {
          board = comes.board;
          who = comes.who;
          config = comes.config;
          fronts = comes.fronts;
          late = λ alone. comes.late;
          alone = comes.alone;
        })
        comes.done comes.late
        (subst (λ l. AllKeep p.config p.history l (open_queries s.queries)) (sym over.cursors) p.stands.keep)
        (pinned_still p new put_state over.pinned refl)
        (pins_moved (Ok (Some Swap)) (said ∷ []) at p.old.desk new.desk p.old.pinned new.pinned refl refl) refl

  pub swap_step : SwapsInAs W p.old new this → WholeTo p after result new
  swap_step (inl none) = no_swap none.0 none.1
  swap_step (inr (inl had)) = rows_left had
  swap_step (inr (inr (inl has))) = lacked has
  swap_step (inr (inr (inr (inl has)))) = moved has
  swap_step (inr (inr (inr (inr has)))) = put_in_place has
