-- What a session that is alone answers to the lines of a workload.
use Rattle.std.proofs.Common.{◌≡◌, ℕ, ◌+◌, ◌≤◌, List, [], length, map, true, sum_by, refl, ap, ◌∙◌, subst, arith}
use Rattle.std.specs.List.{AllByRecursion}
use Rattle.hamming_model.specs.declared.limits.TheConstants.{ENTRIES_MOST}
use Rattle.hamming_model.specs.History.{JournalEntry}
use Rattle.part_layout.specs.Ranges.{IsConfig}
use Rattle.part_layout.specs.declared.config.Config.{Config}
use Rattle.byte_lines.specs.Lines.{lines}
use Rattle.query_protocol.specs.Lines.{reading}
use Rattle.query_protocol.specs.Written.{IsWritten}
use Rattle.session_model.specs.State.{State}
use Rattle.session_model.specs.Entries.{Exchange}
use Rattle.session_model.specs.Ledger.{Rise}
use Rattle.session_model.specs.Commits.{commits}
use Rattle.session_model.specs.Run.{IsRunAlone, lines_of, first_session}
use Rattle.load_lines.specs.Codes.{codes_drawn, state_after_keys}
use Rattle.load_lines.specs.Lines.{load_lines}
use Rattle.load_sums.specs.Sums.{lacks_of}
use Rattle.load_model.specs.Told.{replies_of, AddUpToLoad, AreBoundsDrawn}
use Rattle.load_model.specs.Workload.{rows_drawn, questions_drawn}
use Rattle.load_model.specs.Asked.{requests_querying, requests_drawn}
use Rattle.load_model.proofs.SpellingLemmas.{load_spells, drawn_number}
use Rattle.load_model.proofs.WalkLemmas.{Asks, asks_from}
use Rattle.load_model.proofs.AddLemmas.{Stands, all_added, numbered_length}
use Rattle.load_model.proofs.LoadLemmas.{all_told}
use Rattle.load_model.proofs.WrittenLemmas.{all_commits, all_written, begins_small}
use Rattle.load_model.proofs.RequestLemmas.{drawn_small, few_exchanges}

module _ (config : Config) (number keys : ℕ) (exchanges : List Exchange) (rise : Rise) (is : IsConfig config) (few : keys ≤ ENTRIES_MOST) where
  asks_load : lines_of exchanges ≡ lines (load_lines config.bits number keys) true → Asks config exchanges (requests_drawn config.bits number keys)
  asks_load lines_are =
      asks_from config exchanges (requests_drawn config.bits number keys)
      (ap (λ (all : List (List ℕ)). map (λ line. reading config line) all) lines_are ∙ load_spells config number keys is few)

  pub load_written : lines_of exchanges ≡ lines (load_lines config.bits number keys) true → IsRunAlone config exchanges rise
      → AllByRecursion IsWritten (replies_of exchanges)
  load_written lines_are alone =
      let requests = requests_drawn config.bits number keys in
      let start : State = first_session config in
      let history : List JournalEntry = commits 0 config exchanges in
      let asks = asks_load lines_are in
      let small = drawn_small config.bits number keys is.greatest_bits (omega (arith, few)) in
      let run = alone.solo.session.run in
      let adds = all_commits config history 0 exchanges requests start alone.last asks small run in
      all_written config history exchanges requests start alone.last adds small asks
      (begins_small config (length exchanges) start refl refl (few_exchanges config config.bits number keys exchanges (omega (arith, few)) asks)) run

  pub load_told : config.entries ≡ ENTRIES_MOST → lines_of exchanges ≡ lines (load_lines config.bits number keys) true
      → IsRunAlone config exchanges rise → sum_by lacks_of (replies_of exchanges) ≡ 0 → AddUpToLoad config number keys (replies_of exchanges)
  load_told room lines_are alone none =
      let keyed = codes_drawn config.bits number keys in
      let state : ℕ = state_after_keys config.bits keys 0 number in
      let start : State = first_session config in
      let history : List JournalEntry = commits 0 config exchanges in
      let size = drawn_number config.bits number keys in
      let stands : Stands config history 0 [] start = record { position = refl; rows_are = refl; size = refl; closed = tt; layouts = refl } in
      let added = all_added config history alone.last 0 [] keyed exchanges (requests_querying config.bits keyed 32 0 state) start stands tt
      (omega (arith, few, size, room)) (record { run = alone.solo.session.run; asks = asks_load lines_are; none_lacks = none }) in
      let told = all_told config history alone.last (0 + length keyed) (rows_drawn config.bits number keys) keyed 32 0 state added.rest added.t
      (omega (arith, few, size, numbered_length config.bits 0 keyed)) added.stands added.left in
      let tells = added.tells in record {
        hits_are = omega (arith, tells.hits_told, told.hits_are);
        bound_is = subst (AreBoundsDrawn config (rows_drawn config.bits number keys) (questions_drawn config.bits number keys))
            (omega (arith, tells.bound_told)) told.bounds_are;
        no_fewer = omega (arith, tells.hits_told, tells.reads_told, told.no_fewer);
        within = omega (arith, tells.bound_told, tells.reads_told, told.within);
      }
