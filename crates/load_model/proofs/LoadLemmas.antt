-- What all queries of a workload are told.
use Rattle.std.proofs.Common.{◌≡◌, ℕ, zero, suc, ◌+◌, ◌-◌, ◌*◌, ◌%◌, ◌==◌, ◌≤◌, min, Bool, true, false, cond, List, [], ◌∷◌, length, sum_by, refl, subst, arith}
use Rattle.std.proofs.lemmas.List.Sums.{sum_by-cons}
use Rattle.hamming_model.specs.declared.limits.TheConstants.{ENTRIES_MOST}
use Rattle.hamming_model.specs.History.{JournalEntry}
use Rattle.hamming_model.specs.Scan.{Ask, answer}
use Rattle.hamming_model.specs.Scan as ask
use Rattle.part_layout.specs.declared.config.Config.{Config}
use Rattle.query_protocol.specs.Requests.{LineRequest, Range, Near, Next, Cost, Cancel}
use Rattle.query_protocol.specs.Replies.{LineReply}
use Rattle.query_protocol.specs.Replies as reply
use Rattle.session_model.specs.State.{State}
use Rattle.session_model.specs.Entries.{Exchange}
use Rattle.load_lines.specs.Codes.{code_of_query, state_after_query}
use Rattle.load_sums.specs.Sums.{hits_of, told_bound, reads_of}
use Rattle.load_model.specs.Told.{replies_of, IsBoundDrawn, AreBoundsDrawn}
use Rattle.load_model.specs.Workload.{code_in_words, question_numbered, questions_numbered}
use Rattle.load_model.specs.Asked.{tag_drawn, asking_on, requests_querying}
use Rattle.load_model.proofs.AnswerLemmas.{few_answered}
use Rattle.load_model.proofs.WalkLemmas.{Tells, tells_then, tells_none, tells_one, tells_after, commits_by, IsLeft, IsFirst, first_left}
use Rattle.load_model.proofs.AddLemmas.{Stands}
use Rattle.load_model.proofs.QueryLemmas.{IsAsking, IsOpened, opens, gives, costs, cancels, tells_next, tells_end}

module _ (config : Config) (history : List JournalEntry) (last : State) (number : ℕ) (rows : List (ℕ × List ℕ)) where
  -- ---- one query

  -- what is left after some steps of a query, of which so many hits were given
  record IsGoing (asked : Ask) (given most : ℕ) (exchanges : List Exchange) (requests : List LineRequest) : Type 0 where
    now : ℕ
    rest : List Exchange
    t : State
    asking : IsAsking config history number rows asked now t
    left : IsLeft config history last rest requests t
    tells : Tells exchanges rest (now - given) 0 0
    above : given ≤ now
    below : now ≤ length (answer config.bits rows asked)
    fewer : length (answer config.bits rows asked) - now ≤ length (answer config.bits rows asked) - given - most

  nexts : (asked : Ask) (given more : ℕ) (exchanges : List Exchange) (requests : List LineRequest) (s : State)
      → IsAsking config history number rows asked given s → given ≤ length (answer config.bits rows asked)
      → IsLeft config history last exchanges (asking_on more requests) s → IsGoing asked given (more * 65536) exchanges requests
  nexts asked given zero exchanges requests s is few left = record {
    now = given;
    rest = exchanges;
    t = s;
    asking = is;
    left = left;
    tells = subst (λ hits. Tells exchanges exchanges hits 0 0) (omega arith) (tells_none exchanges);
    above = omega arith;
    below = few;
    fewer = omega arith;
  }
  nexts asked given (suc more) exchanges requests s is few left =
      let all = answer config.bits rows asked in
      let first = first_left config history last exchanges (Next tag_drawn 65536) (asking_on more requests) s left in
      let one = gives config history number rows asked given s first.e first.t is first.step.answers in
      let now : ℕ = min (given + 65536) (length all) in
      let within : now ≤ length all = omega arith in
      let up : given ≤ now = omega (arith, few) in
      let rest = nexts asked now more first.rest requests first.t one.asking within first.left in
      let this = tells_next exchanges first.rest first.e 65536 given all first.all one.said few in record {
        now = rest.now;
        rest = rest.rest;
        t = rest.t;
        asking = rest.asking;
        left = rest.left;
        tells = subst (λ hits. Tells exchanges rest.rest hits 0 0) (omega (arith, up, rest.above))
            (tells_then exchanges first.rest rest.rest (now - given) 0 0 (rest.now - now) 0 0 this rest.tells);
        above = omega (arith, up, rest.above);
        below = rest.below;
        fewer = omega (arith, rest.fewer, few);
      }

  -- what is left after a query
  record IsThrough (asked : Ask) (exchanges : List Exchange) (requests : List LineRequest) : Type 0 where
    bound : ℕ
    reads : ℕ
    rest : List Exchange
    t : State
    stands : Stands config history number rows t
    left : IsLeft config history last rest requests t
    tells : Tells exchanges rest (length (answer config.bits rows asked)) bound reads
    is_bound : IsBoundDrawn config rows asked bound
    no_fewer : length (answer config.bits rows asked) ≤ reads
    within : reads ≤ bound

  tells_all : (one two three four : List Exchange) (now hits bound reads : ℕ) → now ≡ hits → Tells one two (now - 0) 0 0
      → Tells two three 0 bound reads → Tells three four 0 0 0 → Tells one four hits bound reads
  tells_all one two three four now hits bound reads same first second third = record {
    hits_told = omega (arith, same, first.hits_told, second.hits_told, third.hits_told);
    bound_told = omega (arith, first.bound_told, second.bound_told, third.bound_told);
    reads_told = omega (arith, first.reads_told, second.reads_told, third.reads_told);
  }

  after_opening_told : (asked : Ask) (exchanges : List Exchange) (requests : List LineRequest) (s : State) → length rows ≤ ENTRIES_MOST
      → IsAsking config history number rows asked 0 s → IsLeft config history last exchanges (asking_on 16 (Cost tag_drawn ∷ Cancel tag_drawn ∷ requests)) s
      → IsThrough asked exchanges requests
  after_opening_told asked exchanges requests s few is left =
      let all = answer config.bits rows asked in
      let going = nexts asked 0 16 exchanges (Cost tag_drawn ∷ Cancel tag_drawn ∷ requests) s is (omega arith) left in
      let whole : going.now ≡ length all = omega (arith, going.below, going.fewer, few, few_answered config.bits rows asked) in
      let asking : IsAsking config history number rows asked (length all) going.t =
      subst (λ now. IsAsking config history number rows asked now going.t) whole going.asking in
      let cost = first_left config history last going.rest (Cost tag_drawn) (Cancel tag_drawn ∷ requests) going.t going.left in
      let told = costs config history number rows asked going.t cost.e cost.t asking cost.step.answers in
      let end = first_left config history last cost.rest (Cancel tag_drawn) requests cost.t cost.left in
      let ended = cancels config history number rows asked (length all) cost.t end.e end.t told.1 end.step.answers in
      let bound : ℕ = told.0.bound in
      let reads : ℕ = told.0.reads in
      let this = tells_one going.rest cost.rest cost.e (reply.Cost tag_drawn reads bound) cost.all told.0.said in
      let nothing = tells_end cost.rest end.rest end.e ended.done ended.count end.all ended.said in record {
        bound = bound;
        reads = reads;
        rest = end.rest;
        t = end.t;
        stands = ended.stands;
        left = end.left;
        tells = tells_all exchanges going.rest cost.rest end.rest going.now (length all) bound reads whole going.tells this nothing;
        is_bound = told.0.is_bound;
        no_fewer = told.0.no_fewer;
        within = told.0.within;
      }

  -- an opening and what follows it
  whole_told : (asked : Ask) (request : LineRequest) (exchanges : List Exchange) (requests : List LineRequest) (s : State)
      → length rows ≤ ENTRIES_MOST → Stands config history number rows s
      → (first : IsFirst config history last exchanges request (asking_on 16 (Cost tag_drawn ∷ Cancel tag_drawn ∷ requests)) s)
      → IsOpened config history number rows asked first.e first.t → IsThrough asked exchanges requests
  whole_told asked request exchanges requests s few stands first opened =
      let through = after_opening_told asked first.rest requests first.t few opened.asking first.left in
      let this = tells_one exchanges first.rest first.e (reply.Open tag_drawn first.e.position) first.all opened.said in record {
        bound = through.bound;
        reads = through.reads;
        rest = through.rest;
        t = through.t;
        stands = through.stands;
        left = through.left;
        tells = tells_after exchanges first.rest through.rest (length (answer config.bits rows asked)) through.bound through.reads this through.tells;
        is_bound = through.is_bound;
        no_fewer = through.no_fewer;
        within = through.within;
      }

  -- the opening of a query, by whether its number is even
  query_told : (query : ℕ) (code : List ℕ) (even : Bool) (exchanges : List Exchange) (requests : List LineRequest) (s : State)
      → length rows ≤ ENTRIES_MOST → Stands config history number rows s
      → IsLeft config history last exchanges
      (cond even (Range tag_drawn (query % 9) code) (Near tag_drawn query code) ∷ asking_on 16 (Cost tag_drawn ∷ Cancel tag_drawn ∷ requests)) s
      → IsThrough (cond even (ask.Range (query % 9) code) (ask.Near query code)) exchanges requests
  query_told query code true exchanges requests s few stands left =
      let request : LineRequest = Range tag_drawn (query % 9) code in
      let first = first_left config history last exchanges request (asking_on 16 (Cost tag_drawn ∷ Cancel tag_drawn ∷ requests)) s left in
      let moved : first.e.replies ≡ reply.Open tag_drawn first.e.position ∷ [] → first.e.position ≡ s.position = λ said.
      let at = commits_by config history request s first.e first.t (reply.Open tag_drawn first.e.position ∷ []) first.step said in omega (arith, at) in
      whole_told (ask.Range (query % 9) code) request exchanges requests s few stands first
      (opens config history number rows (ask.Range (query % 9) code) s first.e first.t stands first.step.alone.layouts moved
      first.step.none_lacks first.step.answers)
  query_told query code false exchanges requests s few stands left =
      let request : LineRequest = Near tag_drawn query code in
      let first = first_left config history last exchanges request (asking_on 16 (Cost tag_drawn ∷ Cancel tag_drawn ∷ requests)) s left in
      let moved : first.e.replies ≡ reply.Open tag_drawn first.e.position ∷ [] → first.e.position ≡ s.position = λ said.
      let at = commits_by config history request s first.e first.t (reply.Open tag_drawn first.e.position ∷ []) first.step said in omega (arith, at) in
      whole_told (ask.Near query code) request exchanges requests s few stands first
      (opens config history number rows (ask.Near query code) s first.e first.t stands first.step.alone.layouts moved first.step.none_lacks first.step.answers)

  -- ---- all queries

  -- what exchanges are told that ask these questions and no others
  pub record AreTold (questions : List Ask) (exchanges : List Exchange) : Type 0 where
    pub hits_are : sum_by hits_of (replies_of exchanges) ≡ sum_by (λ asked. length (answer config.bits rows asked)) questions
    pub bounds_are : AreBoundsDrawn config rows questions (sum_by told_bound (replies_of exchanges))
    pub no_fewer : sum_by hits_of (replies_of exchanges) ≤ sum_by reads_of (replies_of exchanges)
    pub within : sum_by reads_of (replies_of exchanges) ≤ sum_by told_bound (replies_of exchanges)

  none_left : (exchanges : List Exchange) (s : State) → IsLeft config history last exchanges [] s → AreTold [] exchanges
  none_left [] s left = record { hits_are = refl; bounds_are = refl; no_fewer = omega arith; within = omega arith }
  none_left (e ∷ exchanges) s left = absurd left.asks

  more_told : (asked : Ask) (questions : List Ask) (exchanges : List Exchange) (requests : List LineRequest)
      → (through : IsThrough asked exchanges requests) → AreTold questions through.rest → AreTold (asked ∷ questions) exchanges
  more_told asked questions exchanges requests through rest =
      let hits = sum_by-cons (λ (asked : Ask). length (answer config.bits rows asked)) asked questions in
      let tells = through.tells in record {
        hits_are = omega (arith, tells.hits_told, rest.hits_are, hits);
        bounds_are = (through.bound, sum_by told_bound (replies_of through.rest), through.is_bound, rest.bounds_are, tells.bound_told);
        no_fewer = omega (arith, tells.hits_told, tells.reads_told, rest.no_fewer, through.no_fewer);
        within = omega (arith, tells.bound_told, tells.reads_told, rest.within, through.within);
      }

  pub all_told : (keyed : List (List ℕ)) (queries query state : ℕ) (exchanges : List Exchange) (s : State)
      → length rows ≤ ENTRIES_MOST → Stands config history number rows s
      → IsLeft config history last exchanges (requests_querying config.bits keyed queries query state) s
      → AreTold (questions_numbered config.bits keyed queries query state) exchanges
  all_told keyed zero query state exchanges s few stands left = none_left exchanges s left
  all_told keyed (suc queries) query state exchanges s few stands left =
      let words = code_of_query config.bits keyed query state in
      let after : ℕ = state_after_query config.bits keyed state in
      let requests = requests_querying config.bits keyed queries (query + 1) after in
      let through = query_told query (code_in_words config.bits words) (query % 2 == 0) exchanges requests s few stands left in
      more_told (question_numbered config.bits query words) (questions_numbered config.bits keyed queries (query + 1) after) exchanges requests through
      (all_told keyed queries (query + 1) after through.rest through.t few through.stands through.left)
