-- Lemmas on the loop over reads: one more block, and the ways in which it ends.
use Rattle.std.proofs.Common.{◌≡◌, ℕ, ◌+◌, ◌-◌, ◌<◌, ◌≤◌, true, false, Option, Result, Ok, Err}
use Rattle.std.proofs.Common.{List, [], ◌∷◌, ◌++◌, length, take, drop, get_or}
use Rattle.std.proofs.Common.{refl, sym, ap, ◌∙◌, subst, arith, append-nil, length-append}
use Rattle.std.specs.Io.KnownBytes.{Appends, Consumes, Keeps, IsAtEnd}
use Rattle.std.proofs.KnownBytes.{Appends-nil, Appends-trans, Consumes-nil, Consumes-trans, Consumes-kept}
use Rattle.byte_lines.specs.Cut.{held_of}
use Rattle.std.proofs.lemmas.List.{take-append-le, take-append-drop, length-take}
use Rattle.byte_lines.specs.Lines.{ended_lines}
use Rattle.line_io.specs.Faults.{Rose}
use Rattle.line_io.specs.declared.source.Failed.{Failed}
use Rattle.session_model.specs.declared.limits.TheConstants.{BLOCK_MOST}
use Rattle.session_model.specs.Ledger.{Ledgers}
use Rattle.session_model.specs.Outside.{Call, Ends, Transfers}
use Rattle.session_model.specs.Outcomes.{before_last}
use Rattle.line_answers.specs.Answered.{Answering}
use Rattle.line_answers.specs.Endings.{IsAnsweredToEnd, IsAnsweredToReadFault, IsAnsweredToWriteFault, IsAnsweredToLimit}
use Rattle.line_answers.specs.Flow.{Progress, StandsAfter, StandsAtEnd, ProceedsBy, EndsAfter, WasBroken, IsServing}
use Rattle.line_answers.proofs.BlockLemmas.{no_fewer_lines}

take_one : (xs : List ℕ) → 0 < length xs → take 1 xs ≡ get_or xs 0 0 ∷ []
take_one [] lt = absurd (omega arith)
take_one (x ∷ xs) lt = refl

rose_from : (a b c : ℕ) → b ≡ a → Rose b c → Rose a c
rose_from a b c same rose = subst (λ n. Rose n c) same rose

-- the lines before the last read are no more than those before this one
no_more_before : (bytes piece : List ℕ) → length piece ≤ BLOCK_MOST
    → length (ended_lines [] (before_last (bytes ++ piece))) ≤ length (ended_lines [] bytes)
no_more_before bytes piece few =
    let n = length (bytes ++ piece) - BLOCK_MOST in
    let short : n ≤ length bytes = omega (arith, few, length-append bytes piece) in
    let front = before_last (bytes ++ piece) in
    let parted : bytes ≡ front ++ drop n bytes =
    sym (ap (λ l. l ++ drop n bytes) (take-append-le n bytes piece short) ∙ take-append-drop n bytes) in
    subst (λ l. length (ended_lines [] front) ≤ length (ended_lines [] l)) (sym parted)
    (no_fewer_lines front (drop n bytes))

-- ---- one read

-- a piece was read that fits into a block, and into what the limit leaves
pub record HasRead (before after : Option (List ℕ)) (taken limit : ℕ) (piece : List ℕ) : Type 0 where
  pub read : Consumes before after piece
  pub few : length piece ≤ BLOCK_MOST
  pub fits : taken + length piece ≤ limit

-- what a read left in front of its room, which is of this size
pub has_read : {before after : Option (List ℕ)} {taken limit : ℕ} (count size : ℕ) (room rest : List ℕ)
    → length room ≡ size → count ≤ length room → size ≤ BLOCK_MOST → taken + size ≤ limit
    → Consumes before after (take count room)
    → HasRead before after taken limit (take count (room ++ rest))
has_read {before} {after} count size room rest sized within few fits read =
    let same : take count (room ++ rest) ≡ take count room = take-append-le count room rest within in
    let short : length (take count room) ≤ size = omega (arith, length-take count room, within, sized) in
    record {
      read = subst (Consumes before after) (sym same) read;
      few = omega (arith, ap length same, short, few);
      fits = omega (arith, ap length same, short, fits);
    }

pub length_read : (count : ℕ) (room rest : List ℕ) → count ≤ length room
    → length (take count (room ++ rest)) ≡ count
length_read count room rest within =
    omega (arith, ap length (take-append-le count room rest within), length-take count room, within)

-- ---- the loop

-- nothing was read yet
pub serves_none : (Answered : Answering) (limit : ℕ) (now : Progress) (source sink : Ends) → Answered now.ledgers now.ledgers [] []
    → now.begun ≡ held_of [] → IsServing Answered limit 0 now.ledgers now source source sink sink
serves_none Answered limit now source sink none begun = record {
  bytes = [];
  output = [];
  read = Consumes-nil source.bytes;
  wrote = Appends-nil sink.bytes;
  long = refl;
  few = omega arith;
  no_read_failed = refl;
  no_write_failed = refl;
  goes = record { answers = record { texts = []; answered = none; output_is = refl }; begun = begun };
}

module _ {Old : Answering} {limit taken : ℕ} {start : Ledgers} {old : Progress} {source0 source1 sink0 sink1 : Ends}
    (serves : IsServing Old limit taken start old source0 source1 sink0 sink1) where
  -- the call so far
  abbrev up_to : Ends → Ends → Progress → Call
  up_to source sink now = record {
    before = record { source = source0; sink = sink0; ledgers = start };
    after = record { source = source; sink = sink; ledgers = now.ledgers };
  }

  pub read_fault : {source2 : Ends} → Keeps source1.bytes source2.bytes → Rose source1.faults source2.faults
      → IsAnsweredToReadFault Old limit (up_to source2 sink1 old)
  read_fault {source2} keeps rose = record {
    rose = rose_from source0.faults source1.faults source2.faults serves.no_read_failed rose;
    no_write_failed = serves.no_write_failed;
    bytes = serves.bytes;
    output = serves.output;
    moved = record {
      read = Consumes-kept source0.bytes source1.bytes source2.bytes serves.bytes serves.read keeps;
      few = omega (arith, serves.long, serves.few);
      wrote = serves.wrote;
    };
    answered = serves.goes.answers;
  }

  -- one byte more was read
  pub limit_reached : {source2 : Ends} (count : ℕ) (room : List ℕ) → count ≡ 1 → 0 < length room
      → Consumes source1.bytes source2.bytes (take count room)
      → source2.faults ≡ source1.faults → taken ≡ limit
      → IsAnsweredToLimit Old limit (up_to source2 sink1 old)
  limit_reached {source2} count room one some read steady full =
      let past = get_or room 0 0 in
      let more = subst (Consumes source1.bytes source2.bytes) (ap (λ n. take n room) one ∙ take_one room some) read in
      record {
        no_read_failed = steady ∙ serves.no_read_failed;
        no_write_failed = serves.no_write_failed;
        bytes = serves.bytes;
        past = past;
        output = serves.output;
        read = Consumes-trans source0.bytes source1.bytes source2.bytes serves.bytes (past ∷ []) serves.read more;
        full = serves.long ∙ full;
        wrote = serves.wrote;
        answered = serves.goes.answers;
      }

  module _ (New : Answering) (source2 sink2 : Ends) (new : Progress) (from : old.written ≡ sink1.bytes)
      (to : new.written ≡ sink2.bytes) (no_read_failed : source2.faults ≡ source1.faults) where
    -- what was written between the two moments
    wrote_more : (more : List ℕ) → Appends old.written new.written more → Appends sink1.bytes sink2.bytes more
    wrote_more more appends =
        subst (λ w. Appends sink1.bytes w more) to (subst (λ w. Appends w new.written more) from appends)

    -- ---- the end of the input

    module _ (count : ℕ) (room : List ℕ) (zero : count ≡ 0)
        (read : Consumes source1.bytes source2.bytes (take count room)) (at_end : IsAtEnd source2.bytes)
        (result : Result (Unit {0}) Failed) (flows : EndsAfter result Old old New new) where
      -- nothing was read
      none : Consumes source1.bytes source2.bytes []
      none = subst (λ n. Consumes source1.bytes source2.bytes (take n room)) zero read

      ends : (more : List ℕ) × Appends old.written new.written more
          × StandsAtEnd result New new start serves.bytes (serves.output ++ more)
      ends = flows start serves.bytes serves.output serves.goes

      moved_all : Transfers limit (up_to source2 sink2 new) serves.bytes (serves.output ++ ends.0)
      moved_all = record {
        read = subst (Consumes source0.bytes source2.bytes) (append-nil serves.bytes)
            (Consumes-trans source0.bytes source1.bytes source2.bytes serves.bytes [] serves.read none);
        few = omega (arith, serves.long, serves.few);
        wrote = Appends-trans sink0.bytes sink1.bytes sink2.bytes serves.output ends.0 serves.wrote
            (wrote_more ends.0 ends.1);
      }

      pub done_at_end : {on : Unit {0}} → result ≡ Ok on → sink2.faults ≡ sink1.faults
          → IsAnsweredToEnd New limit (up_to source2 sink2 new)
      done_at_end {on} is steady = record {
        no_read_failed = no_read_failed ∙ serves.no_read_failed;
        no_write_failed = steady ∙ serves.no_write_failed;
        bytes = serves.bytes;
        output = serves.output ++ ends.0;
        moved = moved_all;
        ended = at_end;
        answered = subst (λ r. StandsAtEnd r New new start serves.bytes (serves.output ++ ends.0)) is ends.2;
      }

      pub refused_at_end : {failed : Failed} → result ≡ Err failed → Rose sink1.faults sink2.faults
          → IsAnsweredToWriteFault New limit (up_to source2 sink2 new)
      refused_at_end {failed} is rose =
          let last = subst (λ r. StandsAtEnd r New new start serves.bytes (serves.output ++ ends.0)) is ends.2 in
          let few = subst (λ l. length (ended_lines [] (before_last l)) ≤ length (ended_lines [] serves.bytes))
          (append-nil serves.bytes) (no_more_before serves.bytes [] (omega arith)) in
          record {
            no_read_failed = no_read_failed ∙ serves.no_read_failed;
            rose = rose_from sink0.faults sink1.faults sink2.faults serves.no_write_failed rose;
            bytes = serves.bytes;
            output = serves.output ++ ends.0;
            moved = moved_all;
            ended = true;
            ended_at = λ _. at_end;
            broken = last.broken;
            all_before = omega (arith, few, last.all_before);
          }

    -- ---- one more block

    module _ {piece : List ℕ} (block : HasRead source1.bytes source2.bytes taken limit piece)
        (result : Result (Unit {0}) Failed) (leads : ProceedsBy result Old old New new piece) where
      flows : (more : List ℕ) × Appends old.written new.written more
          × StandsAfter result New new start serves.bytes piece (serves.output ++ more)
      flows = leads start serves.bytes serves.output serves.goes

      -- all that was read, and all that was written
      abbrev all : List ℕ
      all = serves.bytes ++ piece

      abbrev output : List ℕ
      output = serves.output ++ flows.0

      moved_on : Transfers limit (up_to source2 sink2 new) all output
      moved_on = record {
        read = Consumes-trans source0.bytes source1.bytes source2.bytes serves.bytes piece serves.read
            block.read;
        few = omega (arith, length-append serves.bytes piece, serves.long, block.fits);
        wrote = Appends-trans sink0.bytes sink1.bytes sink2.bytes serves.output flows.0 serves.wrote
            (wrote_more flows.0 flows.1);
      }

      pub serves_more : {on : Unit {0}} (count : ℕ) → length piece ≡ count → result ≡ Ok on
          → sink2.faults ≡ sink1.faults
          → IsServing New limit (taken + count) start new source0 source2 sink0 sink2
      serves_more {on} count number is steady = record {
        bytes = all;
        output = output;
        read = moved_on.read;
        wrote = moved_on.wrote;
        long = omega (arith, length-append serves.bytes piece, serves.long, number);
        few = omega (arith, block.fits, number);
        no_read_failed = no_read_failed ∙ serves.no_read_failed;
        no_write_failed = steady ∙ serves.no_write_failed;
        goes = subst (λ r. StandsAfter r New new start serves.bytes piece output) is flows.2;
      }

      pub refused_in_block : {failed : Failed} → result ≡ Err failed → Rose sink1.faults sink2.faults
          → IsAnsweredToWriteFault New limit (up_to source2 sink2 new)
      refused_in_block {failed} is rose =
          let last : WasBroken New new start (ended_lines [] all) output (length (ended_lines [] serves.bytes)) =
          subst (λ r. StandsAfter r New new start serves.bytes piece output) is flows.2 in
          record {
            no_read_failed = no_read_failed ∙ serves.no_read_failed;
            rose = rose_from sink0.faults sink1.faults sink2.faults serves.no_write_failed rose;
            bytes = all;
            output = output;
            moved = moved_on;
            ended = false;
            ended_at = λ never. cc;
            broken = last.broken;
            all_before = omega (arith, no_more_before serves.bytes piece block.few, last.all_before);
          }
