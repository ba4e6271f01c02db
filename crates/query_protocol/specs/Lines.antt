-- What a line asks, or its first fault.
use Rattle.std.specs.Prelude.{ℕ, not, nat_lt, if◌then◌else◌, List, [], ◌∷◌, length, codes}
use Rattle.std.specs.Prelude.{Option, Some, None, Ok, Err}
use Rattle.std.specs.Str.{bytes_eq}
use Rattle.part_layout.specs.declared.config.Config.{Config}
use Rattle.line_forms.specs.Words.{words, is_printable}
use Rattle.byte_lines.specs.declared.cutter.TheConstants.{LINE_MOST}
use Rattle.query_protocol.specs.Requests.{LineReading, Del, Get, Cost, Cancel, Swap, Quit}
use Rattle.query_protocol.specs.Requests.{bad, request_naming}
use Rattle.query_protocol.specs.Asked.{add_asked, range_asked, nearest_asked, next_asked}
use Rattle.query_protocol.specs.Asked.{plan_asked, nothing_more, key_alone, tag_alone}
use Rattle.query_protocol.specs.ShardsAsked.{layout_asked, repart_asked, build_asked, searching_asked}
use Rattle.query_protocol.specs.declared.request.RequestWord.{RequestWord}
use Rattle.query_protocol.specs.declared.request.RequestWord.TheVariants.{AddWord, DelWord, GetWord}
use Rattle.query_protocol.specs.declared.request.RequestWord.TheVariants.{RangeWord, NearWord, NextWord}
use Rattle.query_protocol.specs.declared.request.RequestWord.TheVariants.{CostWord, PlanWord}
use Rattle.query_protocol.specs.declared.request.RequestWord.TheVariants.{CancelWord, LayoutWord}
use Rattle.query_protocol.specs.declared.request.RequestWord.TheVariants.{RepartWord, BuildWord}
use Rattle.query_protocol.specs.declared.request.RequestWord.TheVariants.{SwapWord, SearchWord, QuitWord}

-- the request word that a word is
abbrev pub request_word : List ℕ → Option RequestWord
request_word word =
    if bytes_eq word (codes "add") then Some AddWord else
    if bytes_eq word (codes "del") then Some DelWord else
    if bytes_eq word (codes "get") then Some GetWord else
    if bytes_eq word (codes "range") then Some RangeWord else
    if bytes_eq word (codes "near") then Some NearWord else
    if bytes_eq word (codes "next") then Some NextWord else
    if bytes_eq word (codes "cost") then Some CostWord else
    if bytes_eq word (codes "plan") then Some PlanWord else
    if bytes_eq word (codes "cancel") then Some CancelWord else
    if bytes_eq word (codes "layout") then Some LayoutWord else
    if bytes_eq word (codes "repart") then Some RepartWord else
    if bytes_eq word (codes "build") then Some BuildWord else
    if bytes_eq word (codes "swap") then Some SwapWord else
    if bytes_eq word (codes "search") then Some SearchWord else
    if bytes_eq word (codes "quit") then Some QuitWord else None

-- a request word with the words after it
abbrev pub with_words : Config → Option RequestWord → List (List ℕ) → LineReading
with_words config None after = Err (bad 3)
with_words config (Some AddWord) after = add_asked config.bits after
with_words config (Some DelWord) after = request_naming (λ key. Del key) (key_alone after)
with_words config (Some GetWord) after = request_naming (λ key. Get key) (key_alone after)
with_words config (Some RangeWord) after = range_asked config.bits after
with_words config (Some NearWord) after = nearest_asked config.bits after
with_words config (Some NextWord) after = next_asked after
with_words config (Some CostWord) after = request_naming (λ tag. Cost tag) (tag_alone after)
with_words config (Some PlanWord) after = plan_asked config.shards after
with_words config (Some CancelWord) after = request_naming (λ tag. Cancel tag) (tag_alone after)
with_words config (Some LayoutWord) after = layout_asked config.shards after
with_words config (Some RepartWord) after = repart_asked config.bits config.shards after
with_words config (Some BuildWord) after = build_asked after
with_words config (Some SwapWord) after = nothing_more Swap after
with_words config (Some SearchWord) after = searching_asked config.shards after
with_words config (Some QuitWord) after = nothing_more Quit after

-- the words of a line: a line with no word asks nothing
abbrev pub of_words : Config → List (List ℕ) → LineReading
of_words config [] = Ok None
of_words config (word ∷ after) = with_words config (request_word word) after

-- a line: a request, nothing, or its first fault
abbrev pub reading : Config → List ℕ → LineReading
reading config line =
    if nat_lt LINE_MOST (length line) then Err (bad 1) else
    if not (is_printable line) then Err (bad 2) else of_words config (words line)
