-- Words joined by single spaces, and what a line has for words.
use Rattle.std.proofs.Common.{◌≡◌, ◌≢◌, ℕ, ◌==◌, Bool, true, false, List, [], ◌∷◌, ◌++◌, refl, sym, ap, ◌∙◌, if◌then◌else◌, arith}
use Rattle.std.proofs.lemmas.Bool.Decides.{nat_tests}
use Rattle.std.proofs.lemmas.List.{append-nil, append_assoc}
use Rattle.line_forms.specs.Words.{words, words_after, begun_word, joined}

-- no byte is a space
abbrev HasNoSpace : List ℕ → Type 0
HasNoSpace [] = Unit {0}
HasNoSpace (byte ∷ bytes) = (byte ≢ 32) × HasNoSpace bytes

-- one word
abbrev IsWord : List ℕ → Type 0
IsWord [] = ⊥
IsWord (byte ∷ bytes) = HasNoSpace (byte ∷ bytes)

-- each is a word
abbrev AreWords : List (List ℕ) → Type 0
AreWords [] = Unit {0}
AreWords (word ∷ words) = IsWord word × AreWords words

-- one more byte that is no space
no_space_more : (begun : List ℕ) (byte : ℕ) → HasNoSpace begun → byte ≢ 32 → HasNoSpace (begun ++ byte ∷ [])
no_space_more [] byte none other = (other, tt)
no_space_more (first ∷ begun) byte none other = (none.0, no_space_more begun byte none.1 other)

-- a begun word before further words
begun_before : (begun : List ℕ) (words : List (List ℕ)) → HasNoSpace begun → AreWords words → AreWords (begun_word begun ++ words)
begun_before [] words none each = each
begun_before (byte ∷ bytes) words none each = (none, each)

-- a test that isn't true
other_byte : (byte : ℕ) → (byte == 32) ≡ false → byte ≢ 32
other_byte byte differs = grind (arith, nat_tests)

-- a byte more, where what follows has words
words_step : (begun bytes : List ℕ) (byte : ℕ) (space : Bool) → (byte == 32) ≡ space → HasNoSpace begun
    → AreWords (words_after [] bytes) → (HasNoSpace (begun ++ byte ∷ []) → AreWords (words_after (begun ++ byte ∷ []) bytes))
    → AreWords (if space then begun_word begun ++ words_after [] bytes else words_after (begun ++ byte ∷ []) bytes)
words_step begun bytes byte true is none after on = begun_before begun (words_after [] bytes) none after
words_step begun bytes byte false is none after on = on (no_space_more begun byte none (other_byte byte is))

-- what a line has for words are words
are_words : (begun line : List ℕ) → HasNoSpace begun → AreWords (words_after begun line)
are_words begun [] none = let each = begun_before begun [] none tt in rw append-nil at each
are_words begun (byte ∷ bytes) none =
    words_step begun bytes byte (byte == 32) refl none (are_words [] bytes tt)
    (λ more. are_words (begun ++ byte ∷ []) bytes more)

-- a byte that is no space
plain : (byte : ℕ) → byte ≢ 32 → (byte == 32) ≡ false
plain byte other = grind (arith, nat_tests)

-- bytes without a space go on with the begun word
through : (begun word rest : List ℕ) → HasNoSpace word → words_after begun (word ++ rest) ≡ words_after (begun ++ word) rest
through begun [] rest none = rw append-nil
through begun (byte ∷ word) rest none =
    let differs : (byte == 32) ≡ false = plain byte none.0 in
    let step : words_after begun (byte ∷ word ++ rest) ≡ words_after (begun ++ byte ∷ []) (word ++ rest) = rw differs in
    let grown : (begun ++ byte ∷ []) ++ word ≡ begun ++ byte ∷ word = append_assoc begun (byte ∷ []) word in
    step ∙ through (begun ++ byte ∷ []) word rest none.1 ∙ ap (λ (b : List ℕ). words_after b rest) grown

-- words that are joined are the words of the line
pub words_joined : (all : List (List ℕ)) → AreWords all → words (joined all) ≡ all
words_joined [] each = refl
words_joined ([] ∷ others) each = absurd each.0
words_joined ((byte ∷ bytes) ∷ []) each =
    let whole : byte ∷ bytes ++ [] ≡ byte ∷ bytes = append-nil (byte ∷ bytes) in
    ap (λ (line : List ℕ). words line) (sym whole) ∙ through [] (byte ∷ bytes) [] each.0
words_joined ((byte ∷ bytes) ∷ next ∷ others) each =
    through [] (byte ∷ bytes) (32 ∷ joined (next ∷ others)) each.0
    ∙ ap (λ (rest : List (List ℕ)). (byte ∷ bytes) ∷ rest) (words_joined (next ∷ others) each.1)

-- the words of a line, joined, are its words
pub words_of_joined : (line : List ℕ) → words (joined (words line)) ≡ words line
words_of_joined line = words_joined (words line) (are_words [] line tt)
