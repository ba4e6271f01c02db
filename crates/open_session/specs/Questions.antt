-- What a question asks of the shards and of their gathering. No public clause cites this module.
use Rattle.std.specs.Prelude.{ℕ, List, min}
use Rattle.hamming_model.specs.Scan.{Ask}
use Rattle.hamming_model.specs.Scan as ask
use Rattle.query_protocol.specs.Requests.{LineRequest, Range, Near}
use Rattle.query_opening.specs.declared.wanted.Wanted.{Wanted}
use Rattle.query_opening.specs.declared.wanted.Wanted.TheVariants.{Within, Nearest}
use Rattle.open_session.specs.declared.question.Question.{Question}
use Rattle.open_session.specs.declared.question.Question.TheVariants as question

-- the question of a query with this code
abbrev pub ask_of : Question → List ℕ → Ask
ask_of (question.Range tau) code = ask.Range tau code
ask_of (question.Near number) code = ask.Near number code

-- what a line asks that opens it under a tag
abbrev pub opening_request : List ℕ → Ask → LineRequest
opening_request tag (ask.Range tau code) = Range tag tau code
opening_request tag (ask.Near number code) = Near tag number code

-- its code
abbrev pub asked_code : Ask → List ℕ
asked_code (ask.Range tau code) = code
asked_code (ask.Near number code) = code

-- the radius that has all its hits, on codes of so many bits
abbrev pub radius_in : ℕ → Ask → ℕ
radius_in bits (ask.Range tau code) = tau
radius_in bits (ask.Near number code) = bits

-- what it wants of each shard
abbrev pub wanted_in : Ask → Wanted
wanted_in (ask.Range tau code) = Within tau
wanted_in (ask.Near number code) = Nearest

-- the most hits that it gives of so many rows
abbrev pub limit_in : Ask → ℕ → ℕ
limit_in (ask.Range tau code) rows = 18446744073709551615
limit_in (ask.Near number code) rows = min number rows
