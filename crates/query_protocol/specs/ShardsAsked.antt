-- What the words after a request word ask, or their first fault: shards, builds and the search
-- for a layout.
use Rattle.std.specs.Prelude.{ℕ, ◌&&◌, nat_lt, if◌then◌else◌, List, [], ◌∷◌}
use Rattle.std.specs.Prelude.{Option, Some, None, Ok, Err}
use Rattle.std.specs.Option.{is_none}
use Rattle.exchange_model.specs.declared.limits.TheConstants.{ROUNDS_MOST}
use Rattle.line_forms.specs.Forms.{count_of, number_of, shard_form}
use Rattle.part_layout.specs.Faults.{fault_of}
use Rattle.part_layout.specs.Grammar.{is_layout_text, spelled}
use Rattle.query_protocol.specs.Requests.{LineReading, bad, bad_word, Layout, Repart, Build, Search}

-- the parts of a layout of so many bits, where the text spells one
abbrev pub layout_form : ℕ → List ℕ → Option (List (List ℕ))
layout_form bits text =
    if is_layout_text text && is_none (fault_of bits (spelled text)) then Some (spelled text)
    else None

-- a shard, which has to be one of so many
abbrev pub layout_reading : ℕ → Option ℕ → LineReading
layout_reading shards None = Err (bad_word 2)
layout_reading shards (Some shard) =
    if nat_lt shard shards then Ok (Some (Layout shard)) else Err (bad 6)

-- a shard, which has to be one of so many, and a layout
abbrev pub repart_of : ℕ → Option ℕ → Option (List (List ℕ)) → LineReading
repart_of shards None layout = Err (bad_word 2)
repart_of shards (Some shard) None = Err (bad_word 3)
repart_of shards (Some shard) (Some layout) =
    if nat_lt shard shards then Ok (Some (Repart shard layout)) else Err (bad 6)

-- how many rows
abbrev pub build_of : Option ℕ → LineReading
build_of None = Err (bad_word 2)
build_of (Some number) = Ok (Some (Build number))

-- how many rounds a search has: one digit
abbrev pub rounds_of : List ℕ → Option ℕ
rounds_of word = number_of 1 1 ROUNDS_MOST word

-- a shard, which has to be one of so many, and the rounds of a search
abbrev pub searching_of : ℕ → Option ℕ → Option ℕ → LineReading
searching_of shards None rounds = Err (bad_word 2)
searching_of shards (Some shard) None = Err (bad_word 3)
searching_of shards (Some shard) (Some rounds) =
    if nat_lt shard shards then Ok (Some (Search shard rounds)) else Err (bad 6)

-- the words after `layout`
abbrev pub layout_asked : ℕ → List (List ℕ) → LineReading
layout_asked shards (shard ∷ []) = layout_reading shards (shard_form shard)
layout_asked shards after = Err (bad 4)

-- the words after `repart`
abbrev pub repart_asked : ℕ → ℕ → List (List ℕ) → LineReading
repart_asked bits shards (shard ∷ text ∷ []) =
    repart_of shards (shard_form shard) (layout_form bits text)
repart_asked bits shards after = Err (bad 4)

-- the words after `build`
abbrev pub build_asked : List (List ℕ) → LineReading
build_asked (number ∷ []) = build_of (count_of number)
build_asked after = Err (bad 4)

-- the words after `search`
abbrev pub searching_asked : ℕ → List (List ℕ) → LineReading
searching_asked shards (shard ∷ rounds ∷ []) =
    searching_of shards (shard_form shard) (rounds_of rounds)
searching_asked shards after = Err (bad 4)
