-- Lemmas on the loop over reads: one more block, and the ways in which it ends.
use Rattle.std.proofs.Common.{◌≡◌, ℕ, ◌+◌, ◌-◌, ◌<◌, ◌≤◌, true, false, Option, Result, Ok, Err}
use Rattle.std.proofs.Common.{List, [], ◌∷◌, ◌++◌, length, take, drop, get_or}
use Rattle.std.proofs.Common.{refl, sym, ap, ◌∙◌, subst, arith, inl, inr, append-nil, length-append}
use Rattle.std.specs.Io.KnownBytes.{Appends, Consumes, Keeps, IsAtEnd}
use Rattle.std.proofs.KnownBytes.{Appends-trans, Consumes-trans, Consumes-kept}
use Rattle.std.proofs.lemmas.List.{take-append-le, take-append-drop, length-take}
use Rattle.line_io.specs.Faults.{Rose}
use Rattle.byte_lines.specs.Lines.{ended_lines, unended, last_line}
use Rattle.line_io.specs.declared.source.Failed.{Failed}
use Rattle.byte_lines.proofs.LinesLemmas.{ended_lines-append}
use Rattle.part_layout.specs.declared.config.Config.{Config}
use Rattle.session_model.specs.declared.limits.TheConstants.{BLOCK_MOST}
use Rattle.session_model.specs.Entries.{Exchange}
use Rattle.session_model.specs.Ledger.{Rise}
use Rattle.session_model.specs.Run.{AnswersLines, has_quit}
use Rattle.session_model.specs.Outside.{Call, Ends, Transfers}
use Rattle.session_model.specs.Outcomes.{EndsWith, before_last, IsDone, IsReadFault, IsWriteFault, IsInputLimit}
use Rattle.session_model.proofs.RunLemmas.{before_more, no_quit_in_front}
use Rattle.session_step.specs.declared.turn.Turn.{Turn}
use Rattle.session_step.specs.declared.turn.Turn.TheVariants.{Goes, Quits}
use Rattle.gph_session.specs.Sessions.{IsServed}
use Rattle.open_session.specs.Moments.{Moment}
use Rattle.gph_session.specs.Flow.{Start, told_so_far}
use Rattle.gph_session.specs.Pieces.{FlowIs, FlowsOn, EndIs, EndsOn, HasEnded, HasServed, WasRefused}
use Rattle.gph_session.specs.Serving.{Serves}
use Rattle.gph_session.proofs.FlowLemmas.{served_so_far, goes_on}
use Rattle.gph_session.proofs.BlockLemmas.{no_fewer_lines}

take_one : (xs : List ℕ) → 0 < length xs → take 1 xs ≡ get_or xs 0 0 ∷ []
take_one [] lt = absurd (omega arith)
take_one (x ∷ xs) lt = refl

rose_from : (a b c : ℕ) → b ≡ a → Rose b c → Rose a c
rose_from a b c same rose = subst (λ n. Rose n c) same rose

-- ---- the bytes before the last read

-- these are a front of the bytes before the last block
front_of_before : (bytes piece : List ℕ) → length piece ≤ BLOCK_MOST
    → (rest : List ℕ) × (bytes ≡ before_last (bytes ++ piece) ++ rest)
front_of_before bytes piece few =
    let n = length (bytes ++ piece) - BLOCK_MOST in
    let short : n ≤ length bytes = omega (arith, few, length-append bytes piece) in (
      drop n bytes,
      sym (ap (λ l. l ++ drop n bytes) (take-append-le n bytes piece short) ∙ take-append-drop n bytes),
    )

no_quit_before : (config : Config) (bytes piece : List ℕ) → length piece ≤ BLOCK_MOST
    → has_quit config (ended_lines [] bytes) ≡ false
    → has_quit config (ended_lines [] (before_last (bytes ++ piece))) ≡ false
no_quit_before config bytes piece few goes =
    let front = before_last (bytes ++ piece) in
    let parted = front_of_before bytes piece few in
    no_quit_in_front config (ended_lines [] front) (ended_lines (unended [] front) parted.0)
    (ap (has_quit config) (sym (ended_lines-append [] front parted.0) ∙ ap (ended_lines []) (sym parted.1))
    ∙ goes)

no_more_before : (bytes piece : List ℕ) → length piece ≤ BLOCK_MOST
    → length (ended_lines [] (before_last (bytes ++ piece))) ≤ length (ended_lines [] bytes)
no_more_before bytes piece few =
    let front = before_last (bytes ++ piece) in
    let parted = front_of_before bytes piece few in
    subst (λ l. length (ended_lines [] front) ≤ length (ended_lines [] l)) (sym parted.1)
    (no_fewer_lines front parted.0)

-- ---- one read

-- a piece was read that fits into a block, and into what the limit leaves
pub record HasRead (before after : Option (List ℕ)) (taken limit : ℕ) (piece : List ℕ) : Type 0 where
  pub read : Consumes before after piece
  pub few : length piece ≤ BLOCK_MOST
  pub fits : taken + length piece ≤ limit

-- what a read left in front of its room, which is of this size
pub has_read : {before after : Option (List ℕ)} {taken limit : ℕ} (count size : ℕ) (room rest : List ℕ)
    → length room ≡ size → count ≤ length room → size ≤ BLOCK_MOST → taken + size ≤ limit
    → Consumes before after (take count room)
    → HasRead before after taken limit (take count (room ++ rest))
has_read {before} {after} count size room rest sized within few fits read =
    let same : take count (room ++ rest) ≡ take count room = take-append-le count room rest within in
    let short : length (take count room) ≤ size = omega (arith, length-take count room, within, sized) in
    record {
      read = subst (Consumes before after) (sym same) read;
      few = omega (arith, ap length same, short, few);
      fits = omega (arith, ap length same, short, fits);
    }

pub length_read : (count : ℕ) (room rest : List ℕ) → count ≤ length room
    → length (take count (room ++ rest)) ≡ count
length_read count room rest within =
    omega (arith, ap length (take-append-le count room rest within), length-take count room, within)

-- ---- the loop

module _ {W : ℕ} {config : Config} {start : Start} {old : Moment W} {taken : ℕ}
    {source0 source1 sink0 sink1 : Ends} {begun : Option (List ℕ)}
    (serves : Serves config start old taken source0 source1 sink0 sink1 begun) where
  -- the call up to a moment
  abbrev up_to : Ends → Ends → Moment W → Call
  up_to source sink now = record {
    before = record { source = source0; sink = sink0; ledgers = start.ledgers };
    after = record { source = source; sink = sink; ledgers = now.ledgers };
  }

  -- what makes a session of exchanges that end at a moment
  abbrev Served : Moment W → Config → List Exchange → Rise → Type 0
  Served now = IsServed start.desk now.desk (told_so_far now)

  -- the lines so far were answered, and none of them ends the session
  served : HasServed config start old (ended_lines [] serves.bytes) serves.output
  served = served_so_far config start old serves.bytes serves.output begun serves.goes

  goes : has_quit config (ended_lines [] serves.bytes) ≡ false
  goes = goes_on config start old serves.bytes serves.output begun serves.goes

  pub read_fault : {source2 : Ends} → Keeps source1.bytes source2.bytes
      → Rose source1.faults source2.faults
      → EndsWith (IsReadFault (Served old) config) (up_to source2 sink1 old)
  read_fault {source2} keeps rose = record {
    rise = served.rise;
    rises = served.rises;
    ended = record {
      rose = rose_from source0.faults source1.faults source2.faults serves.no_read_failed rose;
      no_write_failed = serves.no_write_failed;
      bytes = serves.bytes;
      output = serves.output;
      moved = record {
        read = Consumes-kept source0.bytes source1.bytes source2.bytes serves.bytes serves.read keeps;
        few = omega (arith, serves.long, serves.few);
        wrote = serves.wrote;
      };
      goes_on = goes;
      answered = served.answered;
    };
  }

  -- one byte more was read
  pub limit_reached : {source2 : Ends} (count : ℕ) (room : List ℕ) → count ≡ 1 → 0 < length room
      → Consumes source1.bytes source2.bytes (take count room)
      → source2.faults ≡ source1.faults → taken ≡ config.input
      → EndsWith (IsInputLimit (Served old) config) (up_to source2 sink1 old)
  limit_reached {source2} count room one some read steady full =
      let past = get_or room 0 0 in
      let more = subst (Consumes source1.bytes source2.bytes) (ap (λ n. take n room) one ∙ take_one room some) read in
      record {
        rise = served.rise;
        rises = served.rises;
        ended = record {
          no_read_failed = steady ∙ serves.no_read_failed;
          no_write_failed = serves.no_write_failed;
          bytes = serves.bytes;
          past = past;
          output = serves.output;
          read = Consumes-trans source0.bytes source1.bytes source2.bytes serves.bytes (past ∷ []) serves.read more;
          full = serves.long ∙ full;
          wrote = serves.wrote;
          goes_on = goes;
          answered = served.answered;
        };
      }

  module _ (source2 sink2 : Ends) (new : Moment W) (no_read_failed : source2.faults ≡ source1.faults) where
    -- ---- the end of the input

    module _ (count : ℕ) (room : List ℕ) (zero : count ≡ 0)
        (read : Consumes source1.bytes source2.bytes (take count room)) (at_end : IsAtEnd source2.bytes)
        (result : Result Turn Failed) (flows : EndsOn result config old new begun sink1.bytes sink2.bytes) where
      -- nothing was read
      none : Consumes source1.bytes source2.bytes []
      none = subst (λ n. Consumes source1.bytes source2.bytes (take n room)) zero read

      ends : (more : List ℕ) × Appends sink1.bytes sink2.bytes more
          × EndIs result config start new serves.bytes (serves.output ++ more)
      ends = flows start serves.bytes serves.output serves.goes

      moved_all : Transfers config.input (up_to source2 sink2 new) serves.bytes (serves.output ++ ends.0)
      moved_all = record {
        read = subst (Consumes source0.bytes source2.bytes) (append-nil serves.bytes)
            (Consumes-trans source0.bytes source1.bytes source2.bytes serves.bytes [] serves.read none);
        few = omega (arith, serves.long, serves.few);
        wrote = Appends-trans sink0.bytes sink1.bytes sink2.bytes serves.output ends.0 serves.wrote ends.1;
      }

      pub done_at_end : {turn : Turn} → result ≡ Ok turn → sink2.faults ≡ sink1.faults
          → EndsWith (IsDone (Served new) config) (up_to source2 sink2 new)
      done_at_end {turn} is steady =
          let last = subst (λ r. EndIs r config start new serves.bytes (serves.output ++ ends.0)) is ends.2 in
          record {
            rise = last.rise;
            rises = last.rises;
            ended = record {
              no_read_failed = no_read_failed ∙ serves.no_read_failed;
              no_write_failed = steady ∙ serves.no_write_failed;
              bytes = serves.bytes;
              output = serves.output ++ ends.0;
              moved = moved_all;
              ended = inl at_end;
              goes_on = subst (λ l. has_quit config (ended_lines [] (before_last l)) ≡ false)
                  (append-nil serves.bytes) (no_quit_before config serves.bytes [] (omega arith) goes);
              answered = last.answered;
            };
          }

      pub refused_at_end : {failed : Failed} → result ≡ Err failed → Rose sink1.faults sink2.faults
          → EndsWith (IsWriteFault (Served new) config) (up_to source2 sink2 new)
      refused_at_end {failed} is rose =
          let last = subst (λ r. EndIs r config start new serves.bytes (serves.output ++ ends.0)) is ends.2 in
          let few = subst (λ l. length (ended_lines [] (before_last l)) ≤ length (ended_lines [] serves.bytes))
          (append-nil serves.bytes) (no_more_before serves.bytes [] (omega arith)) in
          record {
            rise = last.rise;
            rises = last.rises;
            ended = record {
              no_read_failed = no_read_failed ∙ serves.no_read_failed;
              rose = rose_from sink0.faults sink1.faults sink2.faults serves.no_write_failed rose;
              bytes = serves.bytes;
              output = serves.output ++ ends.0;
              moved = moved_all;
              ended = true;
              ended_at = λ _. at_end;
              refused = last.refused;
              all_before = omega (arith, few, last.all_before);
            };
          }

    -- ---- one more block

    module _ {piece : List ℕ} (block : HasRead source1.bytes source2.bytes taken config.input piece)
        (begun' : Option (List ℕ)) (result : Result Turn Failed)
        (leads : FlowsOn result config old new begun begun' piece sink1.bytes sink2.bytes) where
      flows : (more : List ℕ) × Appends sink1.bytes sink2.bytes more
          × FlowIs result config start new serves.bytes piece (serves.output ++ more) begun'
      flows = leads start serves.bytes serves.output serves.goes

      -- the same by the result
      flowed : (expected : Result Turn Failed) → result ≡ expected
          → FlowIs expected config start new serves.bytes piece (serves.output ++ flows.0) begun'
      flowed expected is =
          subst (λ r. FlowIs r config start new serves.bytes piece (serves.output ++ flows.0) begun') is
          flows.2

      -- all that was read, and all that was written
      abbrev all : List ℕ
      all = serves.bytes ++ piece

      abbrev output : List ℕ
      output = serves.output ++ flows.0

      moved_on : Transfers config.input (up_to source2 sink2 new) all output
      moved_on = record {
        read = Consumes-trans source0.bytes source1.bytes source2.bytes serves.bytes piece serves.read
            block.read;
        few = omega (arith, length-append serves.bytes piece, serves.long, block.fits);
        wrote = Appends-trans sink0.bytes sink1.bytes sink2.bytes serves.output flows.0 serves.wrote flows.1;
      }

      pub serves_more : (count : ℕ) → length piece ≡ count → result ≡ Ok Goes → sink2.faults ≡ sink1.faults
          → Serves config start new (taken + count) source0 source2 sink0 sink2 begun'
      serves_more count number is steady = record {
        bytes = all;
        output = output;
        read = moved_on.read;
        wrote = moved_on.wrote;
        long = omega (arith, length-append serves.bytes piece, serves.long, number);
        few = omega (arith, block.fits, number);
        no_read_failed = no_read_failed ∙ serves.no_read_failed;
        no_write_failed = steady ∙ serves.no_write_failed;
        goes = flowed (Ok Goes) is;
      }

      pub done_by_quit : result ≡ Ok Quits → sink2.faults ≡ sink1.faults
          → EndsWith (IsDone (Served new) config) (up_to source2 sink2 new)
      done_by_quit is steady =
          let ended : HasEnded config start new (ended_lines [] all) output = flowed (Ok Quits) is in
          record {
            rise = ended.served.rise;
            rises = ended.served.rises;
            ended = record {
              no_read_failed = no_read_failed ∙ serves.no_read_failed;
              no_write_failed = steady ∙ serves.no_write_failed;
              bytes = all;
              output = output;
              moved = moved_on;
              ended = inr ended.quits;
              goes_on = no_quit_before config serves.bytes piece block.few goes;
              answered =
                  subst (λ l. AnswersLines (Served new config) l output ended.served.rise)
                  (sym (before_more config (ended_lines [] all) (last_line (unended [] all)) ended.quits))
                  ended.served.answered;
            };
          }

      pub refused_in_block : {failed : Failed} → result ≡ Err failed → Rose sink1.faults sink2.faults
          → EndsWith (IsWriteFault (Served new) config) (up_to source2 sink2 new)
      refused_in_block {failed} is rose =
          let last : WasRefused config start new (ended_lines [] all) output (length (ended_lines [] serves.bytes)) =
          flowed (Err failed) is in
          record {
            rise = last.rise;
            rises = last.rises;
            ended = record {
              no_read_failed = no_read_failed ∙ serves.no_read_failed;
              rose = rose_from sink0.faults sink1.faults sink2.faults serves.no_write_failed rose;
              bytes = all;
              output = output;
              moved = moved_on;
              ended = false;
              ended_at = λ never. cc;
              refused = last.refused;
              all_before = omega (arith, no_more_before serves.bytes piece block.few, last.all_before);
            };
          }
