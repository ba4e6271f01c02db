-- Lemmas on the command `load`: what the replies to the lines of a workload add up to.
use Rattle.std.proofs.Common.{◌≡◌, ℕ, ◌<◌, ◌≤◌, ◌⊎◌, inl, inr, true, false, Option, Some, None, IfSome, List, [], ◌∷◌, ◌++◌}
use Rattle.std.proofs.Common.{length, take, sum_by, refl, sym, ap, ◌∙◌, subst, append-nil}
use Rattle.std.specs.List.{AllByRecursion}
use Rattle.std.specs.Io.KnownBytes.{Appends, Consumes, IsAtEnd}
use Rattle.std.proofs.lemmas.List.Concat.{flat_map-append}
use Rattle.byte_lines.specs.Lines.{lines}
use Rattle.line_io.specs.Faults.{Rose}
use Rattle.part_layout.specs.declared.config.Config.{Config}
use Rattle.query_protocol.specs.Replies.{LineReply, text, reply_line}
use Rattle.query_protocol.specs.Written.{IsWritten}
use Rattle.session_model.specs.Entries.{Exchange}
use Rattle.session_model.specs.Ledger.{Rise, Ledgers, RisesBy}
use Rattle.session_model.specs.Run.{IsRunAlone, lines_of, before_quit, has_quit, written_text}
use Rattle.session_model.specs.Outside.{Call, Ends}
use Rattle.session_model.specs.Outcomes.{EndsWith, IsDone}
use Rattle.load_lines.specs.Lines.{load_lines}
use Rattle.load_sums.specs.Line.{load_line}
use Rattle.load_sums.specs.Sums.{IsSumOf, lacks_of}
use Rattle.load_sums.specs.declared.sums.Sums.{Sums}
use Rattle.load_model.specs.Workload.{rows_drawn, questions_drawn}
use Rattle.load_model.specs.Told.{IsToldOfLoad, AreBoundsDrawn, AddUpToLoad, replies_of}
use Rattle.gph_serve.specs.Loads.{IsSumOfLoad, Loads, LoadsPartly}

-- what exchanges write is the text of all their replies
written_replies : (exchanges : List Exchange) → written_text exchanges ≡ text (replies_of exchanges)
written_replies [] = refl
written_replies (e ∷ exchanges) =
    ap (λ l. text e.replies ++ l) (written_replies exchanges) ∙ sym (flat_map-append reply_line e.replies (replies_of exchanges))

-- a sink that held nothing holds what was appended
all_held : (held output : List ℕ) (sink' : Option (List ℕ)) → sink' ≡ Some held → Appends (Some []) sink' output → held ≡ output
all_held held output None is wrote = absurd wrote
all_held held output (Some other) is wrote =
    let same : held ≡ other = cc in
    same ∙ wrote

module _ (config : Config) (number codes : ℕ) where
  -- the lines of the workload
  abbrev whole_text : List ℕ
  whole_text = load_lines config.bits number codes

  abbrev whole_lines : List (List ℕ)
  whole_lines = lines whole_text true

  -- the laws of the workload, for these words
  pub record LawsOfLoad : Type 0 where
    pub beginning : (bytes rest : List ℕ) → whole_text ≡ bytes ++ rest → has_quit config (lines bytes false) ≡ false
    pub whole : before_quit config whole_lines ≡ whole_lines
    pub written : (exchanges : List Exchange) (rise : Rise) → lines_of exchanges ≡ whole_lines
        → IsRunAlone config exchanges rise → AllByRecursion IsWritten (replies_of exchanges)
    pub adds_up : (exchanges : List Exchange) (rise : Rise) → lines_of exchanges ≡ whole_lines → IsRunAlone config exchanges rise
        → sum_by lacks_of (replies_of exchanges) ≡ 0 → AddUpToLoad config number codes (replies_of exchanges)

  -- a session that is done has read all lines
  all_read : LawsOfLoad → (bytes : List ℕ) (source' : Option (List ℕ)) → Consumes (Some whole_text) source' bytes
      → IsAtEnd source' ⊎ (has_quit config (lines bytes false) ≡ true) → bytes ≡ whole_text
  all_read laws bytes None taken ended = absurd taken
  all_read laws bytes (Some rest) taken (inl none) = sym (taken ∙ ap (λ l. bytes ++ l) none ∙ append-nil bytes)
  all_read laws bytes (Some rest) taken (inr quits) =
      let never : true ≡ false = sym quits ∙ laws.beginning bytes rest taken in
      cc

  -- sums of the replies are those of the workload
  told_of : (replies : List LineReply) (sums : Sums) → IsSumOf replies sums → AddUpToLoad config number codes replies
      → IsToldOfLoad config number codes sums.hits sums.bound sums.reads
  told_of replies sums summed told = record {
    hits_are = summed.hits ∙ told.hits_are;
    bound_is = subst (AreBoundsDrawn config (rows_drawn config.bits number codes) (questions_drawn config.bits number codes))
        (sym summed.bound) told.bound_is;
    no_fewer = rw (summed.hits, summed.reads) told.no_fewer;
    within = rw (summed.bound, summed.reads) told.within;
  }

  sums_of : LawsOfLoad → (before after : Ledgers) (exchanges : List Exchange) (rise : Rise) → IsRunAlone config exchanges rise
      → lines_of exchanges ≡ whole_lines → RisesBy before after rise → (sums : Option Sums) → IfSome sums (IsSumOf (replies_of exchanges))
      → IfSome sums (IsSumOfLoad config number codes before after)
  sums_of laws before after exchanges rise served lines_are rises None summed = tt
  sums_of laws before after exchanges rise served lines_are rises (Some sums) summed = record {
    told = told_of (replies_of exchanges) sums summed (laws.adds_up exchanges rise lines_are served summed.none_lacks);
    exchanges = exchanges;
    rise = rise;
    served = served;
    lines_are = lines_are;
    summed = summed;
    rises = rises;
  }

  -- so it is for a session over the lines that is done, and whose replies a sink in memory holds
  pub sums_when_done : LawsOfLoad → (it : Call) → EndsWith (IsDone IsRunAlone config) it → (held : List ℕ) (sums : Option Sums)
      → ((said : List LineReply) → held ≡ text said → AllByRecursion IsWritten said → IfSome sums (IsSumOf said))
      → it.before.source.bytes ≡ Some whole_text → it.before.sink.bytes ≡ Some [] → it.after.sink.bytes ≡ Some held
      → IfSome sums (IsSumOfLoad config number codes it.before.ledgers it.after.ledgers)
  sums_when_done laws it done held sums summed source sink sink' =
      let bytes = done.ended.bytes in
      let output = done.ended.output in
      let answered = done.ended.answered in
      let exchanges = answered.exchanges in
      let read : bytes ≡ whole_text =
      all_read laws bytes it.after.source.bytes (subst (λ left. Consumes left it.after.source.bytes bytes) source done.ended.moved.read)
      done.ended.ended in
      let lines_are : lines_of exchanges ≡ whole_lines =
      answered.lines_are ∙ ap (λ l. before_quit config (lines l true)) read ∙ laws.whole in
      let said : held ≡ text (replies_of exchanges) =
      all_held held output it.after.sink.bytes sink' (subst (λ l. Appends l it.after.sink.bytes output) sink done.ended.moved.wrote)
      ∙ answered.bytes_are ∙ written_replies exchanges in
      sums_of laws it.before.ledgers it.after.ledgers exchanges done.rise answered.served lines_are done.rises sums
      (summed (replies_of exchanges) said (laws.written exchanges done.rise lines_are answered.served))

  -- ---- the line on its way to the sink

  pub loads : (sink sink' : Ends) (before after : Ledgers) (sums : Sums) (line : List ℕ) → line ≡ load_line codes sums
      → IsSumOfLoad config number codes before after sums → Appends sink.bytes sink'.bytes line → sink'.faults ≡ sink.faults
      → Loads config number codes sink sink' before after
  loads sink sink' before after sums line is are_sums wrote steady = record {
    sums = sums;
    are_sums = are_sums;
    wrote = subst (Appends sink.bytes sink'.bytes) is wrote;
    no_write_failed = steady;
  }

  pub loads_partly : (sink sink' : Ends) (before after : Ledgers) (sums : Sums) (line : List ℕ) → line ≡ load_line codes sums
      → IsSumOfLoad config number codes before after sums
      → (taken : ℕ) × (taken < length line) × Appends sink.bytes sink'.bytes (take taken line)
      → (sink.faults ≤ sink'.faults) × Rose sink.faults sink'.faults → LoadsPartly config number codes sink sink' before after
  loads_partly sink sink' before after sums line is are_sums wrote cause = record {
    sums = sums;
    are_sums = are_sums;
    taken = wrote.0;
    not_all = subst (λ l. wrote.0 < length l) is wrote.1;
    wrote = subst (λ l. Appends sink.bytes sink'.bytes (take wrote.0 l)) is wrote.2;
    rose = cause.1;
  }
