-- What becomes of the additions of a workload.
use Rattle.std.proofs.Common.{◌≡◌, ℕ, suc, ◌+◌, ◌<◌, ◌≤◌, ◌==◌, nat_le, Bool, true, false, cond, is_some, List, [], ◌∷◌, ◌++◌, length, take, replicate, slice_get, Option, Some, None, refl, sym, ap, ◌∙◌, subst, arith, append_assoc, append-nil, length-append, inl, inr, ◌⊎◌}
use Rattle.std.proofs.lemmas.Bool.{lt-leb, le-ltb, ne_eqb}
use Rattle.std.proofs.lemmas.List.{take_more}
use Rattle.std.proofs.lemmas.Option.{slice_get_within, get_or_from_slice_get}
use Rattle.std.specs.List.{AllByRecursion}
use Rattle.std.specs.Ordering.{nat_cmp, match_ordering, is_eq}
use Rattle.std.specs.declared.cmp.Ordering.TheVariants.{Less, Equal, Greater}
use Rattle.std.specs.BTreeMap.{insert_entry}
use Rattle.hamming_model.specs.History.{JournalEntry, Decision, code_at, rows_of, changed, decide, decision_on, Taken, Full}
use Rattle.hamming_model.specs.History as journal
use Rattle.hamming_model.proofs.RowLemmas.{rows_of_append}
use Rattle.part_layout.specs.Contiguous.{contiguous}
use Rattle.part_layout.specs.declared.config.Config.{Config}
use Rattle.query_protocol.specs.Requests.{LineRequest, Add}
use Rattle.query_protocol.specs.Replies.{LineReply}
use Rattle.query_protocol.specs.Replies as reply
use Rattle.session_model.specs.State.{State, Query}
use Rattle.session_model.specs.Entries.{Exchange, Refuses, Adds, RefusesTaken, Fills}
use Rattle.load_sums.specs.Sums.{lacks_of}
use Rattle.load_model.specs.Workload.{code_in_words, rows_numbered}
use Rattle.load_model.specs.Asked.{additions}
use Rattle.load_model.proofs.WalkLemmas.{Tells, tells_none, tells_one, tells_after, one_told, IsStep, commits_by, IsLeft, first_left}

-- ---- rows

-- all keys of rows are below a number
abbrev pub AreBelow : ℕ → List (ℕ × List ℕ) → Type 0
AreBelow key rows = AllByRecursion (λ row. row.0 < key) rows

greater : (key low : ℕ) → low < key → nat_cmp key low ≡ Greater
greater key low below =
    ap (λ (b : Bool). cond b Less (cond (key == low) Equal Greater)) (le-ltb key low (omega (arith, below)))
    ∙ ap (λ (b : Bool). cond b Equal Greater) (ne_eqb key low (λ same. absurd (omega (arith, same, below))))

-- a row with a greater key goes to the end, and its key was absent
inserted_last : (rows : List (ℕ × List ℕ)) (key : ℕ) (code : List ℕ) → AreBelow key rows
    → insert_entry nat_cmp rows key code ≡ rows ++ (key, code) ∷ []
inserted_last [] key code below = refl
inserted_last (row ∷ rows) key code below =
    ap (λ order. match_ordering order ((key, code) ∷ row ∷ rows) ((row.0, code) ∷ rows) (row ∷ insert_entry nat_cmp rows key code)) (greater key row.0 below.0)
    ∙ ap (λ (more : List (ℕ × List ℕ)). row ∷ more) (inserted_last rows key code below.1)

absent : (rows : List (ℕ × List ℕ)) (key : ℕ) → AreBelow key rows → code_at rows key ≡ None
absent [] key below = refl
absent (row ∷ rows) key below =
    ap (λ order. cond (is_eq order) (Some row.1) (code_at rows key)) (greater key row.0 below.0) ∙ absent rows key below.1

below_more : (rows : List (ℕ × List ℕ)) (key : ℕ) (code : List ℕ) → AreBelow key rows → AreBelow (key + 1) (rows ++ (key, code) ∷ [])
below_more [] key code below = (omega arith, tt)
below_more (row ∷ rows) key code below = (omega (arith, below.0), below_more rows key code below.1)

pub numbered_length : (bits key : ℕ) (added : List (List ℕ)) → length (rows_numbered bits key added) ≡ length added
numbered_length bits key [] = refl
numbered_length bits key (words ∷ added) = ap suc (numbered_length bits (key + 1) added)

-- one entry more of a history
entry_more : (history : List JournalEntry) (number : ℕ) (entry : JournalEntry) → slice_get history number ≡ Some entry
    → take (number + 1) history ≡ take number history ++ entry ∷ []
entry_more history number entry is =
    take_more history number entry (slice_get_within history number entry is)
    ∙ ap (λ one. take number history ++ one ∷ []) (get_or_from_slice_get history number entry entry is)

-- ---- a session between two queries

abbrev pub AreClosed : List Query → Type 0
AreClosed queries = AllByRecursion (λ (query : Query). query.closed ≡ true) queries

-- the starting layout of each shard
abbrev pub starting_layouts : Config → List (List (List ℕ))
starting_layouts config = replicate config.shards (contiguous config.bits config.parts)

module _ (config : Config) (history : List JournalEntry) where
  -- so many entries stand, which leave these rows, and no query is open
  pub record Stands (number : ℕ) (rows : List (ℕ × List ℕ)) (s : State) : Type 0 where
    pub position : s.position ≡ number
    pub rows_are : rows_of (take number history) ≡ rows
    pub size : length (take number history) ≡ number
    pub closed : AreClosed s.queries
    pub layouts : s.layouts ≡ starting_layouts config

  -- what is decided on a new key where there is room
  decides_added : (key : ℕ) (rows : List (ℕ × List ℕ)) (code : List ℕ) (s : State) → Stands key rows s → AreBelow key rows → key < config.entries
      → decision_on (take key history) config.entries (journal.Add key code) ≡ journal.Added
  decides_added key rows code s stands below room =
      let none : code_at (rows_of (take key history)) key ≡ None = ap (λ all. code_at all key) stands.rows_are ∙ absent rows key below in
      let few : nat_le config.entries (length (take key history)) ≡ false =
      lt-leb config.entries (length (take key history)) (omega (arith, stands.size, room)) in
      ap (λ (found : Option (List ℕ)). cond (is_some found) Taken (cond (nat_le config.entries (length (take key history))) Full journal.Added)) none
      ∙ ap (λ (b : Bool). cond b Full journal.Added) few

  adds_on : (key : ℕ) (rows : List (ℕ × List ℕ)) (code : List ℕ) (s : State) (e : Exchange) (t : State) → Stands key rows s → AreBelow key rows
      → IsStep config history (Add key code) s e t → Adds config history key code s e t
      → Stands (key + 1) (rows ++ (key, code) ∷ []) t
  adds_on key rows code s e t stands below step adds =
      let entry : JournalEntry = record { who = s.who; operation = journal.Add key code } in
      let at : e.position ≡ key + 1 =
      commits_by config history (Add key code) s e t (reply.Added key e.position ∷ []) step adds.said_is
      ∙ ap (λ n. n + 1) stands.position in
      let there : slice_get history key ≡ Some entry =
      ap (λ n. slice_get history n) (omega (arith, at)) ∙ adds.entry in
      let more = entry_more history key entry there in
      let rows_more : rows_of (take (key + 1) history) ≡ rows ++ (key, code) ∷ [] =
      ap rows_of more ∙ rows_of_append (take key history) (entry ∷ [])
      ∙ ap (λ all. insert_entry nat_cmp all key code) stands.rows_are ∙ inserted_last rows key code below in
      subst (λ (u : State). Stands (key + 1) (rows ++ (key, code) ∷ []) u) (sym adds.position)
      (record {
        position = at;
        rows_are = rows_more;
        size = ap length more ∙ omega (arith, stands.size, length-append (take key history) (entry ∷ []));
        closed = stands.closed;
        layouts = stands.layouts;
      })

  -- a step that commits nothing is at the position before
  stays_at : (key : ℕ) (rows : List (ℕ × List ℕ)) (code : List ℕ) (s : State) (e : Exchange) (t : State) (why : Decision)
      → Stands key rows s → AreBelow key rows → key < config.entries → e.position ≡ s.position
      → decision_on (take e.position history) config.entries (journal.Add key code) ≡ why → journal.Added ≡ why
  stays_at key rows code s e t why stands below room same decided =
      sym (decides_added key rows code s stands below room)
      ∙ ap (λ n. decision_on (take n history) config.entries (journal.Add key code)) (sym (same ∙ stands.position)) ∙ decided

  -- an addition that is answered, and not by want of memory
  record IsAdded (key : ℕ) (rows : List (ℕ × List ℕ)) (code : List ℕ) (e : Exchange) (t : State) : Type 0 where
    stands : Stands (key + 1) (rows ++ (key, code) ∷ []) t
    said : e.replies ≡ reply.Added key e.position ∷ []

  one_added : (key : ℕ) (rows : List (ℕ × List ℕ)) (code : List ℕ) (s : State) (e : Exchange) (t : State) → Stands key rows s → AreBelow key rows
      → key < config.entries → IsStep config history (Add key code) s e t
      → Refuses s e t ⊎ (Adds config history key code s e t ⊎ (RefusesTaken config history key code s e t ⊎ Fills config history (journal.Add key code) s e t))
      → IsAdded key rows code e t
  one_added key rows code s e t stands below room step (inl refuses) =
      let one = one_told lacks_of e.replies reply.NoMemory refuses.said_is in
      absurd (omega (arith, one, step.none_lacks))
  one_added key rows code s e t stands below room step (inr (inl adds)) = record {
    stands = adds_on key rows code s e t stands below step adds;
    said = adds.said_is;
  }
  one_added key rows code s e t stands below room step (inr (inr (inl taken))) =
      let same = commits_by config history (Add key code) s e t (reply.Taken key e.position ∷ []) step taken.said_is in
      let never = stays_at key rows code s e t Taken stands below room (omega (arith, same)) taken.decided in
      absurd (cc)
  one_added key rows code s e t stands below room step (inr (inr (inr full))) =
      let same = commits_by config history (Add key code) s e t (reply.Full e.position ∷ []) step full.said_is in
      let never = stays_at key rows code s e t Full stands below room (omega (arith, same)) full.decided in
      absurd (cc)

  -- ---- all additions

  -- what is left once all codes are added
  pub record AreAdded (last : State) (number : ℕ) (rows : List (ℕ × List ℕ)) (exchanges : List Exchange) (others : List LineRequest) : Type 0 where
    pub rest : List Exchange
    pub t : State
    pub stands : Stands number rows t
    pub left : IsLeft config history last rest others t
    pub tells : Tells exchanges rest 0 0 0

  pub all_added : (last : State) (key : ℕ) (rows : List (ℕ × List ℕ)) (added : List (List ℕ)) (exchanges : List Exchange)
      (others : List LineRequest) (s : State)
      → Stands key rows s → AreBelow key rows → key + length added ≤ config.entries
      → IsLeft config history last exchanges (additions config.bits key added ++ others) s
      → AreAdded last (key + length added) (rows ++ rows_numbered config.bits key added) exchanges others
  all_added last key rows [] exchanges others s stands below room is = record {
    rest = exchanges;
    t = s;
    stands = subst (λ number. Stands number (rows ++ []) s) (omega arith) (subst (λ all. Stands key all s) (sym (append-nil rows)) stands);
    left = is;
    tells = tells_none exchanges;
  }
  all_added last key rows (words ∷ added) exchanges others s stands below room is =
      let code = code_in_words config.bits words in
      let first = first_left config history last exchanges (Add key code) (additions config.bits (key + 1) added ++ others) s is in
      let one = one_added key rows code s first.e first.t stands below (omega (arith, room)) first.step first.step.answers in
      let more = all_added last (key + 1) (rows ++ (key, code) ∷ []) added first.rest others first.t one.stands (below_more rows key code below)
      (omega (arith, room)) first.left in
      let this = tells_one exchanges first.rest first.e (reply.Added key first.e.position) first.all one.said in
      let number : key + 1 + length added ≡ key + length (words ∷ added) = omega arith in
      let all : (rows ++ (key, code) ∷ []) ++ rows_numbered config.bits (key + 1) added ≡ rows ++ rows_numbered config.bits key (words ∷ added) =
      append_assoc rows ((key, code) ∷ []) (rows_numbered config.bits (key + 1) added) in record {
        rest = more.rest;
        t = more.t;
        stands = subst (λ number. Stands number (rows ++ rows_numbered config.bits key (words ∷ added)) more.t) number
            (subst (λ all. Stands (key + 1 + length added) all more.t) all more.stands);
        left = more.left;
        tells = tells_after exchanges first.rest more.rest 0 0 0 this more.tells;
      }
