-- No line of a workload ends the session.
use Rattle.std.proofs.Common.{◌≡◌, ℕ, zero, suc, ◌+◌, ◌%◌, ◌==◌, ◌≤◌, Bool, true, false, cond, List, [], ◌∷◌, ◌++◌, map, refl, sym, ap, ◌∙◌, append_assoc}
use Rattle.std.specs.List.{AllByRecursion}
use Rattle.hamming_model.specs.declared.limits.TheConstants.{ENTRIES_MOST}
use Rattle.byte_lines.specs.Lines.{lines, ended_lines, unended, last_line}
use Rattle.byte_lines.proofs.LinesLemmas.{ended_lines-append}
use Rattle.part_layout.specs.Ranges.{IsConfig}
use Rattle.part_layout.specs.declared.config.Config.{Config}
use Rattle.query_protocol.specs.Requests.{LineRequest, Range, Near, Cost, Cancel}
use Rattle.query_protocol.specs.Lines.{reading}
use Rattle.session_model.specs.Step.{asked_by}
use Rattle.session_model.specs.Run.{asks_quit, before_quit, has_quit}
use Rattle.session_model.proofs.RunLemmas.{no_quit_in_front}
use Rattle.load_lines.specs.Codes.{codes_drawn, code_of_query, state_after_query, state_after_keys}
use Rattle.load_lines.specs.Lines.{load_lines}
use Rattle.load_model.specs.Workload.{code_in_words}
use Rattle.load_model.specs.Asked.{tag_drawn, additions, asking_on, requests_querying, requests_drawn}
use Rattle.load_model.proofs.SpellingLemmas.{asked_request, load_spells}
use Rattle.load_model.proofs.WalkLemmas.{first_read, others_read}

-- ---- the requests

abbrev NoneQuits : List LineRequest → Type 0
NoneQuits requests = AllByRecursion (λ request. asks_quit (asked_request request) ≡ false) requests

opening_goes_on : (query : ℕ) (code : List ℕ) (even : Bool)
    → asks_quit (asked_request (cond even (Range tag_drawn (query % 9) code) (Near tag_drawn query code))) ≡ false
opening_goes_on query code true = refl
opening_goes_on query code false = refl

more_goes_on : (more : ℕ) (others : List LineRequest) → NoneQuits others → NoneQuits (asking_on more others)
more_goes_on zero others rest = rest
more_goes_on (suc more) others rest = (refl, more_goes_on more others rest)

asking_goes_on : (bits : ℕ) (keyed : List (List ℕ)) (queries query state : ℕ) → NoneQuits (requests_querying bits keyed queries query state)
asking_goes_on bits keyed zero query state = tt
asking_goes_on bits keyed (suc queries) query state =
    let after : ℕ = state_after_query bits keyed state in (
      opening_goes_on query (code_in_words bits (code_of_query bits keyed query state)) (query % 2 == 0),
      more_goes_on 16 (Cost tag_drawn ∷ Cancel tag_drawn ∷ requests_querying bits keyed queries (query + 1) after)
          (refl, (refl, asking_goes_on bits keyed queries (query + 1) after)),
    )

adding_goes_on : (bits key : ℕ) (added : List (List ℕ)) (others : List LineRequest) → NoneQuits others
    → NoneQuits (additions bits key added ++ others)
adding_goes_on bits key [] others rest = rest
adding_goes_on bits key (words ∷ added) others rest = (refl, adding_goes_on bits (key + 1) added others rest)

drawn_goes_on : (bits number keys : ℕ) → NoneQuits (requests_drawn bits number keys)
drawn_goes_on bits number keys =
    adding_goes_on bits 0 (codes_drawn bits number keys) (requests_querying bits (codes_drawn bits number keys) 32 0 (state_after_keys bits keys 0 number))
    (asking_goes_on bits (codes_drawn bits number keys) 32 0 (state_after_keys bits keys 0 number))

-- ---- the lines

module _ (config : Config) where
  abbrev NoLineQuits : List (List ℕ) → Type 0
  NoLineQuits all = AllByRecursion (λ line. asks_quit (asked_by config line) ≡ false) all

  lines_go_on : (all : List (List ℕ)) (requests : List LineRequest) → map (λ line. reading config line) all ≡ map asked_request requests
      → NoneQuits requests → NoLineQuits all
  lines_go_on [] requests is none = tt
  lines_go_on (line ∷ all) [] is none = cc
  lines_go_on (line ∷ all) (request ∷ requests) is none =
      (ap asks_quit (ap first_read is) ∙ none.0, lines_go_on all requests (ap others_read is) none.1)

  none_has : (all : List (List ℕ)) → NoLineQuits all → has_quit config all ≡ false
  none_has [] none = refl
  none_has (line ∷ all) none = ap (λ (b : Bool). cond b true (has_quit config all)) none.0 ∙ none_has all none.1

  all_before : (all : List (List ℕ)) → NoLineQuits all → before_quit config all ≡ all
  all_before [] none = refl
  all_before (line ∷ all) none =
      ap (λ (b : Bool). cond b [] (line ∷ before_quit config all)) none.0 ∙ ap (λ (more : List (List ℕ)). line ∷ more) (all_before all none.1)

  load_goes_on : (number keys : ℕ) → IsConfig config → keys ≤ ENTRIES_MOST → NoLineQuits (lines (load_lines config.bits number keys) true)
  load_goes_on number keys is few =
      lines_go_on (lines (load_lines config.bits number keys) true) (requests_drawn config.bits number keys) (load_spells config number keys is few)
      (drawn_goes_on config.bits number keys)

  pub whole_goes_on : (number keys : ℕ) → IsConfig config → keys ≤ ENTRIES_MOST
      → before_quit config (lines (load_lines config.bits number keys) true) ≡ lines (load_lines config.bits number keys) true
  whole_goes_on number keys is few = all_before (lines (load_lines config.bits number keys) true) (load_goes_on number keys is few)

  pub beginning_goes_on : (number keys : ℕ) (bytes rest : List ℕ) → IsConfig config → keys ≤ ENTRIES_MOST
      → load_lines config.bits number keys ≡ bytes ++ rest → has_quit config (lines bytes false) ≡ false
  beginning_goes_on number keys bytes rest is few text =
      let front = ended_lines [] bytes in
      let more = ended_lines (unended [] bytes) rest in
      let last = last_line (unended [] (bytes ++ rest)) in
      let all : lines (load_lines config.bits number keys) true ≡ front ++ (more ++ last) =
      ap (λ (one : List ℕ). lines one true) text ∙ ap (λ (ended : List (List ℕ)). ended ++ last) (ended_lines-append [] bytes rest)
      ∙ append_assoc front more last in
      no_quit_in_front config front (more ++ last)
      (ap (has_quit config) (sym all) ∙ none_has (lines (load_lines config.bits number keys) true) (load_goes_on number keys is few))
