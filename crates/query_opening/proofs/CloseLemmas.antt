-- A desk that opened a front, pinned every shard at it, and closed it.
use Rattle.std.proofs.Common.{◌≡◌, ℕ, zero, suc, ◌+◌, ◌<◌, ◌≤◌, ◌==◌, Bool, true, false, cond, List, length, get_or, Option, Some, None, refl, sym, ap, subst, ◌∙◌, arith, eqb-true}
use Rattle.std.specs.Cmp.{nat_cmp_total, unsigned_tied}
use Rattle.std.specs.FinMap.{get, insert, remove, get-insert, get-remove, same_map, nat_cmp-IsAntisymmetric}
use Rattle.shard_version.specs.Contents.{Contents}
use Rattle.commit_journal.specs.Fronts.{FrontState, Live, live_at, position_of}
use Rattle.session_desk.specs.Calls.{ClosesFront, KeepsKnown, Learns, OnlyLearns, OpensFront}
use Rattle.session_desk.specs.Desks.{DeskState, IsOwnFront, Pin, pinned_at, place_at}
use Rattle.query_opening.specs.Pinning.{ComesOn, PinsAll, PinsFirst, behind}
use Rattle.query_opening.proofs.PinLemmas.{learns_both, learns_length, version_stays}

-- ---- the live fronts

module _ (live : Live) (id : ℕ) (value : ℕ × ℕ) where
  with_one : (q : ℕ) → get (insert live id value) q ≡ cond (q == id) (Some value) (get live q)
  with_one q = get-insert nat_cmp_total live id value q ∙ ap (λ (here : Bool). cond here (Some value) (get live q)) (unsigned_tied q id)

  without : (q : ℕ) → get (remove (insert live id value) id) q ≡ cond (q == id) None (get (insert live id value) q)
  without q = get-remove nat_cmp_total (insert live id value) id q ∙ ap (λ (here : Bool). cond here None (get (insert live id value) q)) (unsigned_tied q id)

  -- a front that was opened and closed leaves the others as they were
  closed_again : live_at live id ≡ None → remove (insert live id value) id ≡ live
  closed_again fresh = same_map nat_cmp_total nat_cmp-IsAntisymmetric (remove (insert live id value) id) live (λ q. without q ∙ go q (q == id) refl)
    where
      go : (q : ℕ) (here : Bool) → (q == id) ≡ here → cond here None (get (insert live id value) q) ≡ get live q
      go q true e = sym (ap (get live) (eqb-true q id e) ∙ fresh)
      go q false e = with_one q ∙ ap (λ (here : Bool). cond here (Some value) (get live q)) e

  -- while it is open each other front stays
  stays_open : live_at live id ≡ None → (q : ℕ) (other : ℕ × ℕ) → live_at live q ≡ Some other → live_at (insert live id value) q ≡ Some other
  stays_open fresh q other is = with_one q ∙ go (q == id) refl
    where
      go : (here : Bool) → (q == id) ≡ here → cond here (Some value) (get live q) ≡ Some other
      go true e = absurd_some (sym fresh ∙ ap (get live) (sym (eqb-true q id e)) ∙ is)
        where
          absurd_some : None ≡ Some other → Some value ≡ Some other
          absurd_some none = cc
      go false e = is

-- ---- the whole

-- a desk that only learned came on
pub only_learned : (old new : DeskState) → OnlyLearns old new → ComesOn old new
only_learned old new only = record {
  learns = only.learns;
  board = ap (λ (d : DeskState). d.board) only.after;
  who = ap (λ (d : DeskState). d.who) only.after;
  config = ap (λ (d : DeskState). d.config) only.after;
  fronts = ap (λ (d : DeskState). d.fronts) only.after;
  done = ap (λ (d : DeskState). d.done) only.after;
  late = ap (λ (d : DeskState). d.late) only.after;
  alone = ap (λ (d : DeskState). d.alone) only.after;
  number = ap (λ (d : DeskState). length d.pins) only.after;
  rises = λ shard within.
      let same : pinned_at new shard ≡ pinned_at old shard = ap (λ (d : DeskState). pinned_at d shard) only.after in
      omega (arith, same);
  layouts = λ is shard. ap (λ (d : DeskState). (place_at d shard).1) only.after;
}

module _ (old start mid new : DeskState) (front : FrontState) (opens : OpensFront old start front) (comes : ComesOn start mid)
    (closes : ClosesFront mid new front) where
  whole : position_of front ≡ length start.seen
  whole = ap length opens.entries

  start_who : start.who ≡ old.who
  start_who = ap (λ (d : DeskState). d.who) opens.after

  start_alone : start.alone ≡ old.alone
  start_alone = ap (λ (d : DeskState). d.alone) opens.after

  mid_learns : Learns old mid.seen
  mid_learns = learns_both old start mid.seen opens.learns comes.learns start_who start_alone

  pub opened_closed : ComesOn old new
  opened_closed = record {
    learns = learns_both old mid new.seen mid_learns closes.learns (comes.who ∙ start_who) (comes.alone ∙ start_alone);
    board = ap (λ (d : DeskState). d.board) closes.after ∙ comes.board ∙ ap (λ (d : DeskState). d.board) opens.after;
    who = ap (λ (d : DeskState). d.who) closes.after ∙ comes.who ∙ start_who;
    config = ap (λ (d : DeskState). d.config) closes.after ∙ comes.config ∙ ap (λ (d : DeskState). d.config) opens.after;
    fronts = ap (λ (d : DeskState). d.fronts) closes.after
        ∙ ap (λ (live : Live). remove live front.id) (comes.fronts ∙ ap (λ (d : DeskState). d.fronts) opens.after)
        ∙ closed_again old.fronts front.id (old.who, length start.seen) opens.fresh;
    done = ap (λ (d : DeskState). d.done) closes.after ∙ comes.done ∙ ap (λ (d : DeskState). d.done) opens.after;
    late = ap (λ (d : DeskState). d.late) closes.after ∙ comes.late ∙ ap (λ (d : DeskState). d.late) opens.after;
    alone = ap (λ (d : DeskState). d.alone) closes.after ∙ comes.alone ∙ start_alone;
    number = ap (λ (d : DeskState). length d.pins) closes.after ∙ comes.number ∙ ap (λ (d : DeskState). length d.pins) opens.after;
    rises = λ shard within.
        let first : pinned_at start shard ≡ pinned_at old shard = ap (λ (d : DeskState). pinned_at d shard) opens.after in
        let last : pinned_at new shard ≡ pinned_at mid shard = ap (λ (d : DeskState). pinned_at d shard) closes.after in
        omega (arith, first, last, comes.rises shard (omega (arith, first, within, learns_length old start.seen opens.learns)));
    layouts = λ is shard.
        ap (λ (d : DeskState). (place_at d shard).1) closes.after ∙ comes.layouts (start_alone ∙ is) shard
        ∙ ap (λ (d : DeskState). (place_at d shard).1) opens.after;
  }

  -- what was known of other fronts stays known
  pub known_through : (before opened came after : FrontState → Type 0) → KeepsKnown start before opened → KeepsKnown mid opened came → KeepsKnown new came after
      → KeepsKnown new before after
  known_through before opened came after first second third other own known =
      let old_own : IsOwnFront old other = ap (λ (live : Live). live_at live other.id) (sym opened_closed.fronts) ∙ own in
      let start_own : IsOwnFront start other = ap (λ (d : DeskState). live_at d.fronts other.id) opens.after
      ∙ stays_open old.fronts front.id (old.who, length start.seen) opens.fresh other.id (other.who, position_of other) old_own in
      let mid_own : IsOwnFront mid other = ap (λ (live : Live). live_at live other.id) comes.fronts ∙ start_own in
      third other own (second other mid_own (first other start_own known))

  position_seen : position_of front ≤ length mid.seen
  position_seen = omega (arith, whole, learns_length start mid.seen comes.learns)

  -- every shard is pinned
  pub pinned_all : (versions : List Contents) (position : ℕ) → position ≡ position_of front
      → PinsFirst start mid (position_of front) versions start.config.shards → PinsAll old new position versions
  pinned_all versions position here first = subst (λ (n : ℕ). PinsAll old new n versions) (sym here) (record {
    comes = opened_closed;
    last = ap (λ (d : DeskState). d.last) closes.after ∙ first.last ∙ ap (λ (d : DeskState). d.last) opens.after ∙ sym whole;
    after = omega (arith, whole, learns_length old start.seen opens.learns);
    within = omega (arith, position_seen, learns_length mid new.seen closes.learns);
    number = first.number_is ∙ ap (λ (d : DeskState). d.config.shards) opens.after;
    each = λ shard other low. (let is = first.each shard other
        (subst (λ (n : ℕ). shard < n) (sym (ap (λ (d : DeskState). d.config.shards) opens.after)) low) in record {
          version_is = version_stays mid new shard (position_of front) _ closes.learns
              (ap (λ (d : DeskState). d.config) closes.after) position_seen is.version_is;
          pin = ap (λ (d : DeskState). get_or d.pins shard None) closes.after ∙ is.pin;
          layout = λ alone. is.layout (start_alone ∙ alone) ∙ ap (λ (d : DeskState). (place_at d shard).1) opens.after;
        });
  })

  -- ---- upkeep

  pub at_behind : (from to position : ℕ) → position ≡ position_of front
      → to ≤ from + behind start.pins (position_of front) start.config.shards
      → to ≤ from + behind old.pins position old.config.shards
  at_behind from to position here bound = omega (
    arith,
    bound,
    ap (λ (d : DeskState). behind d.pins (position_of front) d.config.shards) opens.after,
    ap (λ (n : ℕ). behind old.pins n old.config.shards) here,
  )

  later_behind : (pins : List (Option Pin)) (position seen shards : ℕ) → position ≤ seen → behind pins position shards ≤ behind pins seen shards
  later_behind pins position seen zero within = omega arith
  later_behind pins position seen (suc shard) within = omega (arith, within, later_behind pins position seen shard within)

  pub within_behind : (from to : ℕ) → to ≤ from + behind start.pins (position_of front) start.config.shards
      → to ≤ from + behind old.pins (length new.seen) old.config.shards
  within_behind from to bound =
      let same : behind start.pins (position_of front) start.config.shards ≡ behind old.pins (position_of front) old.config.shards =
      ap (λ (d : DeskState). behind d.pins (position_of front) d.config.shards) opens.after in
      omega (
        arith,
        bound,
        same,
        later_behind old.pins (position_of front) (length new.seen) old.config.shards
            (omega (arith, position_seen, learns_length mid new.seen closes.learns)),
      )
