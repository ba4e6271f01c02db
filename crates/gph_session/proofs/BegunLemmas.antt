-- Lemmas on a session before its first byte, and on its ending by its status.
use Rattle.std.proofs.Common.{◌≡◌, ℕ, zero, suc, ◌+◌, ◌*◌, ◌<◌, ◌≤◌, ◌&&◌, nat_le, Bool, true, false, cond, Option, None}
use Rattle.std.proofs.Common.{List, [], ◌++◌, length, map, replicate, slice_index_or}
use Rattle.std.proofs.Common.{Result, Ok, IfOk, refl, sym, ap, ◌∙◌, subst, inl, inr, arith, append-nil, append_assoc}
use Rattle.std.specs.List.{AllByRecursion}
use Rattle.std.proofs.lemmas.Bool.{and_parts, cases_lt, leb-true}
use Rattle.std.proofs.lemmas.List.{length-replicate, map-append}
use Rattle.std.proofs.lemmas.Result.{IfOk-at_ok}
use Rattle.byte_lines.specs.Cut.{held_of}
use Rattle.hamming_model.specs.Layouts.{IsLayout}
use Rattle.hamming_model.specs.Recoded.{cut_entry, cut_history}
use Rattle.part_layout.specs.Contiguous.{CanBeCut, contiguous}
use Rattle.part_layout.proofs.RunLemmas.{contiguous_laid, cut_holds, cut_wide, number_ok}
use Rattle.part_layout.specs.declared.config.Config.{Config}
use Rattle.session_desk.specs.Calls.{OnlyLearns}
use Rattle.session_desk.specs.Desks.{DeskState, IsDesk, seen_history}
use Rattle.layout_search.specs.Improves.{AreSamples, plain_sample}
use Rattle.session_model.specs.Builds.{swaps_of}
use Rattle.session_model.specs.Entries.{Exchange}
use Rattle.session_model.specs.Ledger.{Rise}
use Rattle.session_model.specs.Outside.{Call}
use Rattle.session_model.specs.State.{new_session}
use Rattle.session_model.specs.Step.{AreLayouts}
use Rattle.session_model.specs.Upkeep.{most_upkeep}
use Rattle.gph_session.specs.Sessions.{IsServed, IsServedSolo, RisesByCount, Told, moves_of, state_of}
use Rattle.open_session.specs.declared.open_session.Session.{Session}
use Rattle.open_session.specs.declared.shard_build.ShardBuild.{ShardBuild}
use Rattle.open_session.specs.KeptBuild.{MeansBuild, StandsFrom, left_in}
use Rattle.open_session.specs.Moments.{Moment, Spends}
use Rattle.open_session.specs.Meaning.{AllKeep, IsReady, Means}
use Rattle.gph_session.specs.Flow.{HasBegunWith, begun_state, first_layouts}
use Rattle.gph_session.specs.declared.report.Status.{Status}
use Rattle.gph_session.specs.declared.report.Status.TheVariants.{Done, InputLimit, NoMemory, ReadFault, WriteFault}
use Rattle.gph_session.specs.Serving.{EndsAs}
use Rattle.open_session.specs.KeptDesk.{layouts_of, pins_of}
use Rattle.open_session.proofs.MomentLemmas.{as_long, desk_keeps, learns_nothing, only_keeps, reads_still, seen_longer, spends_still}
use Rattle.gph_session.proofs.EndingLemmas.{done_as, input_limit_as, read_fault_as, write_fault_as}
use Rattle.gph_session.proofs.FlowLemmas.{leaves_then}
use Rattle.open_session.proofs.DeskLemmas.{are_layouts}
use Rattle.open_session.proofs.LastPinsLemmas.{tells_no_pins}
use Rattle.open_session.proofs.WholeLemmas.{leaves}

-- ---- a session before its first byte

-- no row is left to place where nothing is built
spent_none : {W : ℕ} {build : Option (ShardBuild W)} {steps : ℕ} → build ≡ None → steps ≡ steps + left_in build
spent_none {build = build} none = omega (arith, ap left_in none)

-- bits that can be cut have a contiguous layout
cut_layout : (bits parts : ℕ) → CanBeCut bits parts → IsLayout bits (contiguous bits parts)
cut_layout bits parts can =
    let one = and_parts (nat_le 1 parts) (nat_le parts 64 && (nat_le parts bits && nat_le bits (12 * parts))) can in
    let two = and_parts (nat_le parts 64) (nat_le parts bits && nat_le bits (12 * parts)) one.1 in
    let three = and_parts (nat_le parts bits) (nat_le bits (12 * parts)) two.1 in
    let some : 0 < parts = leb-true 1 parts one.0 in
    contiguous_laid bits parts (number_ok bits parts some (leb-true parts 64 two.0) (leb-true parts bits three.0))
    (elim (cases_lt 12 (length (slice_index_or (contiguous bits parts) 0 []))) [
      | inl wide ↦ absurd (omega (arith, cut_wide bits parts some wide, cut_holds bits parts can))
      | inr narrow ↦ omega (arith, narrow)
    ])

all_same : (P : List (List ℕ) → Type 0) (number : ℕ) (layout : List (List ℕ)) → P layout
    → AllByRecursion P (replicate number layout)
all_same P zero layout is = tt
all_same P (suc number) layout is = (is, all_same P number layout is)

-- the layouts with which the state of a session begins are layouts
first_are : (words : ℕ) (config : Config) (desk : DeskState) → IsDesk words desk → desk.config ≡ config
    → (alone : Bool) → desk.alone ≡ alone → AreLayouts config (first_layouts desk)
first_are words config desk is same true alone =
    subst (λ b. AreLayouts config (cond b (layouts_of desk)
    (replicate desk.config.shards (contiguous desk.config.bits desk.config.parts)))) (sym alone)
    (are_layouts words config desk is alone same)
first_are words config desk is same false alone =
    let layout = contiguous desk.config.bits desk.config.parts in
    subst (λ b. AreLayouts config (cond b (layouts_of desk) (replicate desk.config.shards layout))) (sym alone)
    (subst (λ c. AreLayouts c (replicate desk.config.shards layout)) same (record {
      number = length-replicate desk.config.shards layout;
      each = all_same (IsLayout desk.config.bits) desk.config.shards layout
          (cut_layout desk.config.bits desk.config.parts is.config.cut);
    }))

pub begun_session : {W : ℕ} (words : ℕ) (config : Config) (now : Moment W) (begun : Option (List ℕ))
    → IsDesk words now.desk → now.desk.config ≡ config → now.cursors ≡ []
    → now.pinned.opened ≡ 0 → now.pinned.told ≡ [] → now.samples ≡ [] → now.build ≡ None → now.requests ≡ 0 → now.position ≡ length now.desk.seen
    → begun ≡ held_of [] → HasBegunWith config now begun
begun_session {W} words config now begun is same none opened told no_samples no_build requests position nothing =
    let desk = now.desk in
    let before = seen_history desk in
    let first = first_are words config desk is same desk.alone refl in
    let means : Means config desk before (begun_state desk) = record {
      config_is = same;
      history_is = refl;
      within = omega (arith, as_long desk);
      whole = λ alone. sym (as_long desk);
      who = refl;
      layouts = λ alone. ap (λ b. cond b (layouts_of desk)
          (replicate desk.config.shards (contiguous desk.config.bits desk.config.parts))) alone;
      are_layouts = first;
    } in
    record {
      exchanges = [];
      state = begun_state desk;
      ran = record {
        first = first;
        run = λ later. refl;
        more = [];
        longer = sym (append-nil before);
        own = refl;
        whole = λ alone. refl;
        reads = reads_still now.ledgers.reads [];
        unmoved = λ alone. tt;
        each_seen = tt;
        spent = subst (λ n. Spends desk desk now.ledgers.upkeep n 0) (spent_none no_build)
            (spends_still desk now.ledgers.upkeep 0);
        stands = subst (StandsFrom 0) (sym no_build) tt;
        means = means;
        settled = tt;
        samples = ap (map (plain_sample config.bits)) no_samples;
        build = subst (λ b. MeansBuild desk b None) (sym no_build) tt;
        keeps = leaves desk desk (desk_keeps desk);
        done = inl (omega arith);
        late = inl (omega arith);
        pinned = record { each = tt; opened = opened; told = told };
        pins = tells_no_pins config desk now.pinned.told;
        requests = requests;
        position = position;
      };
      keep = subst (λ l. AllKeep config before l []) (sym none) tt;
      lines_are = refl;
      output_is = refl;
      begun_is = nothing;
    }

-- no sample is one
pub no_samples : (W bits : ℕ) → AreSamples {W = W} bits []
no_samples W bits = record { few = omega arith; each = λ k other inside. absurd (omega (arith, inside)) }

pub is_ready : (words : ℕ) (config : Config) (desk : DeskState) → IsDesk words desk → desk.config ≡ config
    → IsReady words config
is_ready words config desk is same = subst (IsReady words) same (record {
  few_words = is.few_words;
  allowed = record { whole = is.config.whole_bytes; some = is.config.least_bits; room = is.room };
  is_config = is.config;
})

-- what a new session is
pub record IsNew {W : ℕ} (session : Session W) (at : ℕ) : Type 0 where
  pub queries : session.queries ≡ []
  pub opened : session.pinned.opened ≡ 0
  pub told : session.pinned.told.items ≡ []
  pub samples : session.samples ≡ []
  pub build : session.build ≡ None
  pub cutter : session.cutter.held ≡ held_of []
  pub requests : session.requests ≡ 0
  pub position : session.position ≡ at

pub new_of : {W : ℕ} {E : Type 0} {result : Result (Session W) E} {session : Session W} (at : ℕ)
    → result ≡ Ok session → IfOk result (λ (session : Session W). session.queries ≡ [])
    → IfOk result (λ (session : Session W). session.pinned.opened ≡ 0)
    → IfOk result (λ (session : Session W). session.pinned.told.items ≡ [])
    → IfOk result (λ (session : Session W). session.samples ≡ [])
    → IfOk result (λ (session : Session W). session.build ≡ None)
    → IfOk result (λ (session : Session W). session.cutter.held ≡ held_of [])
    → IfOk result (λ (session : Session W). session.requests ≡ 0)
    → IfOk result (λ (session : Session W). session.position ≡ at) → IsNew session at
new_of {W} at ok queries opened told samples build cutter requests position = record {
  queries = IfOk-at_ok (λ (session : Session W). session.queries ≡ []) ok queries;
  opened = IfOk-at_ok (λ (session : Session W). session.pinned.opened ≡ 0) ok opened;
  told = IfOk-at_ok (λ (session : Session W). session.pinned.told.items ≡ []) ok told;
  samples = IfOk-at_ok (λ (session : Session W). session.samples ≡ []) ok samples;
  build = IfOk-at_ok (λ (session : Session W). session.build ≡ None) ok build;
  cutter = IfOk-at_ok (λ (session : Session W). session.cutter.held ≡ held_of []) ok cutter;
  requests = IfOk-at_ok (λ (session : Session W). session.requests ≡ 0) ok requests;
  position = IfOk-at_ok (λ (session : Session W). session.position ≡ at) ok position;
}

-- what is served over a desk that learned before it is served over the desk as it was
module _ (config : Config) (before desk desk' : DeskState) (told : Told) (only : OnlyLearns before desk) where
  seen_before : seen_history desk ≡ seen_history before ++ cut_history before.config.bits only.learns.more
  seen_before =
      ap (λ (c : Config). cut_history c.bits desk.seen) (ap (λ (d : DeskState). d.config) only.after)
      ∙ ap (cut_history before.config.bits) only.learns.longer
      ∙ map-append (cut_entry before.config.bits) before.seen only.learns.more

  pub served_before : (exchanges : List Exchange) (rise : Rise) → IsServed desk desk' told config exchanges rise
      → IsServed before desk' told config exchanges rise
  served_before exchanges rise served = record {
    start = served.start;
    begins = record {
      is_new = served.begins.is_new
          ∙ ap (λ who. new_session who served.start.position served.start.layouts) (ap (λ (d : DeskState). d.who) only.after);
      seen = omega (arith, served.begins.seen, seen_longer before desk.seen only.learns);
      are_layouts = served.begins.are_layouts;
      alone = λ alone. served.begins.alone (same_alone ∙ alone) ∙ ap state_of (learns_nothing before desk alone only);
    };
    last = served.last;
    session = served.session;
    more = cut_history before.config.bits only.learns.more ++ served.more;
    longer = served.longer ∙ ap (λ l. l ++ served.more) seen_before
        ∙ append_assoc (seen_history before) (cut_history before.config.bits only.learns.more) served.more;
    each_seen = served.each_seen;
    within = served.within;
    ledger = served.ledger;
    upkeep = subst (λ l. rise.upkeep ≤ most_upkeep config.shards l (length desk'.seen) exchanges) (ap pins_of only.after)
        served.upkeep;
    keeps = leaves_then before desk desk' (leaves before desk (only_keeps before desk only)) served.keeps;
    done = subst (λ n. RisesByCount n desk'.done (swaps_of exchanges)) (ap (λ (d : DeskState). d.done) only.after) served.done;
    late = subst (λ n. RisesByCount n desk'.late (moves_of exchanges)) (ap (λ (d : DeskState). d.late) only.after) served.late;
    requests = served.requests;
    position = served.position;
    pinned = served.pinned;
    pins = served.pins;
    alone = λ alone. subst (λ d. IsServedSolo d desk' told config exchanges rise) (learns_nothing before desk alone only)
        (served.alone (same_alone ∙ alone));
  }
    where
      same_alone : desk.alone ≡ before.alone
      same_alone = ap (λ (d : DeskState). d.alone) only.after

  abbrev One : Config → List Exchange → Rise → Type 0
  One = IsServed desk desk' told

  abbrev Other : Config → List Exchange → Rise → Type 0
  Other = IsServed before desk' told

  -- the ending by the status
  pub ended_over : (status : Status) (it : Call) → EndsAs status config desk desk' told it
      → EndsAs status config before desk' told it
  ended_over Done it ends = done_as One Other config served_before it ends
  ended_over ReadFault it ends = read_fault_as One Other config served_before it ends
  ended_over WriteFault it ends = write_fault_as One Other config served_before it ends
  ended_over NoMemory it ends = ends
  ended_over InputLimit it ends = input_limit_as One Other config served_before it ends

  pub ended_as : (status expected : Status) → status ≡ expected → (it : Call) → EndsAs status config desk desk' told it
      → EndsAs expected config before desk' told it
  ended_as status expected is it ends =
      subst (λ s. EndsAs s config before desk' told it) is (ended_over status it ends)
