-- What a line of the replies adds, told by its first word.
use Rattle.std.proofs.Common.{◌≡◌, ℕ, ◌+◌, ◌<◌, ◌^◌, List, [], ◌∷◌, ◌++◌, Option, Some, None, IfNone, codes, decimal, refl, ap, sym, ◌∙◌, append_assoc}
use Rattle.std.proofs.Common.{if◌then◌else◌, ◌==◌}
use Rattle.std.proofs.Common.{Bool, true, false, arith, subst}
use Rattle.std.specs.Str.{bytes_eq}
use Rattle.std.proofs.lemmas.Slice.Eq.{bytes_eq-Decides}
use Rattle.query_protocol.specs.Written.{IsWritten}
use Rattle.load_sums.proofs.CostLemmas.{cost_words}
use Rattle.line_forms.specs.Words.{words}
use Rattle.query_protocol.specs.Replies.{LineReply, reply_text, fault_text}
use Rattle.query_protocol.specs.Replies as reply
use Rattle.load_sums.specs.Sums.{hits_of, told_bound, reads_of, lacks_of, AddsReply, CanAdd}
use Rattle.load_sums.specs.declared.sums.Sums.{Sums}

-- words that differ in a byte aren't the same
differ : (a b : List ℕ) → bytes_eq a b ≡ false → a ≡ b → ⊥
differ a b apart same = let both : true ≡ false = sym ((bytes_eq-Decides a b).1 same) ∙ apart in cc

-- the first word of a reply
abbrev word_of : LineReply → List ℕ
word_of (reply.Added key at) = codes "added"
word_of (reply.Deleted key at) = codes "deleted"
word_of (reply.Taken key at) = codes "taken"
word_of (reply.Absent key at) = codes "absent"
word_of (reply.Full at) = codes "full"
word_of (reply.Code key code at) = codes "code"
word_of (reply.Open tag at) = codes "open"
word_of (reply.Hit tag dist key) = codes "hit"
word_of (reply.More tag) = codes "more"
word_of (reply.Done tag count) = codes "done"
word_of (reply.Cost tag reads bound) = codes "cost"
word_of (reply.Plan tag shard cost thresholds) = codes "plan"
word_of (reply.Cancelled tag count) = codes "cancelled"
word_of (reply.Closed tag count) = codes "closed"
word_of (reply.Layout shard text) = codes "layout"
word_of (reply.Building shard left at) = codes "building"
word_of (reply.Built shard left) = codes "built"
word_of (reply.Swapped shard at) = codes "swapped"
word_of (reply.Moved shard front at) = codes "moved"
word_of (reply.Searched shard before after swaps at text) = codes "searched"
word_of (reply.Bad fault) = codes "bad"
word_of reply.NoMemory = codes "nomem"

-- the words of a text that begins with `bad`
bad_words : (rest : List ℕ) → (after : List (List ℕ)) × (words (codes "bad " ++ rest) ≡ codes "bad" ∷ after)
bad_words rest = (words rest, refl)

-- a reply begins with it
begins : (this : LineReply) → (after : List (List ℕ)) × (words (reply_text this) ≡ word_of this ∷ after)
begins (reply.Added key at) = (_, refl)
begins (reply.Deleted key at) = (_, refl)
begins (reply.Taken key at) = (_, refl)
begins (reply.Absent key at) = (_, refl)
begins (reply.Full at) = (_, refl)
begins (reply.Code key code at) = (_, refl)
begins (reply.Open tag at) = (_, refl)
begins (reply.Hit tag dist key) = (_, refl)
begins (reply.More tag) = (_, refl)
begins (reply.Done tag count) = (_, refl)
begins (reply.Cost tag reads bound) = (_, refl)
begins (reply.Plan tag shard cost thresholds) = (_, refl)
begins (reply.Cancelled tag count) = (_, refl)
begins (reply.Closed tag count) = (_, refl)
begins (reply.Layout shard text) = (_, refl)
begins (reply.Building shard left at) = (_, refl)
begins (reply.Built shard left) = (_, refl)
begins (reply.Swapped shard at) = (_, refl)
begins (reply.Moved shard front at) = (_, refl)
begins (reply.Searched shard before after swaps at text) = (_, refl)
begins (reply.Bad fault) =
    let rest : List ℕ = decimal fault.number ++ (if fault.number == 5 then codes " " ++ decimal fault.word else []) in
    let whole : fault_text fault ≡ codes "bad " ++ rest = append_assoc (codes "bad ") (decimal fault.number) _ in
    let found = bad_words rest in
    (found.0, ap words whole ∙ found.1)
begins reply.NoMemory = ([], refl)

-- the first word of a line that is a reply
first_is : (this : LineReply) (word : List ℕ) (after : List (List ℕ)) → words (reply_text this) ≡ word ∷ after → word ≡ word_of this
first_is this word after is =
    let found = begins this in
    let both : word ∷ after ≡ word_of this ∷ found.0 = sym is ∙ found.1 in
    cc

-- what a reply adds, by its first word
abbrev Adds : LineReply → ℕ → Type 0
Adds this hits = (hits_of this ≡ hits) × (told_bound this ≡ 0) × (reads_of this ≡ 0) × (lacks_of this ≡ 0)

pub hit_word : (this : LineReply) → word_of this ≡ codes "hit" → Adds this 1
hit_word (reply.Added key at) is = absurd (differ (codes "added") (codes "hit") refl is)
hit_word (reply.Deleted key at) is = absurd (differ (codes "deleted") (codes "hit") refl is)
hit_word (reply.Taken key at) is = absurd (differ (codes "taken") (codes "hit") refl is)
hit_word (reply.Absent key at) is = absurd (differ (codes "absent") (codes "hit") refl is)
hit_word (reply.Full at) is = absurd (differ (codes "full") (codes "hit") refl is)
hit_word (reply.Code key code at) is = absurd (differ (codes "code") (codes "hit") refl is)
hit_word (reply.Open tag at) is = absurd (differ (codes "open") (codes "hit") refl is)
hit_word (reply.Hit tag dist key) is = (refl, refl, refl, refl)
hit_word (reply.More tag) is = absurd (differ (codes "more") (codes "hit") refl is)
hit_word (reply.Done tag count) is = absurd (differ (codes "done") (codes "hit") refl is)
hit_word (reply.Cost tag reads bound) is = absurd (differ (codes "cost") (codes "hit") refl is)
hit_word (reply.Plan tag shard cost thresholds) is = absurd (differ (codes "plan") (codes "hit") refl is)
hit_word (reply.Cancelled tag count) is = absurd (differ (codes "cancelled") (codes "hit") refl is)
hit_word (reply.Closed tag count) is = absurd (differ (codes "closed") (codes "hit") refl is)
hit_word (reply.Layout shard text) is = absurd (differ (codes "layout") (codes "hit") refl is)
hit_word (reply.Building shard left at) is = absurd (differ (codes "building") (codes "hit") refl is)
hit_word (reply.Built shard left) is = absurd (differ (codes "built") (codes "hit") refl is)
hit_word (reply.Swapped shard at) is = absurd (differ (codes "swapped") (codes "hit") refl is)
hit_word (reply.Moved shard front at) is = absurd (differ (codes "moved") (codes "hit") refl is)
hit_word (reply.Searched shard before after swaps at text) is = absurd (differ (codes "searched") (codes "hit") refl is)
hit_word (reply.Bad fault) is = absurd (differ (codes "bad") (codes "hit") refl is)
hit_word reply.NoMemory is = absurd (differ (codes "nomem") (codes "hit") refl is)

cost_word : (this : LineReply) → word_of this ≡ codes "cost"
    → (tag : List ℕ) × (reads : ℕ) × (bound : ℕ) × (this ≡ reply.Cost tag reads bound)
cost_word (reply.Added key at) is = absurd (differ (codes "added") (codes "cost") refl is)
cost_word (reply.Deleted key at) is = absurd (differ (codes "deleted") (codes "cost") refl is)
cost_word (reply.Taken key at) is = absurd (differ (codes "taken") (codes "cost") refl is)
cost_word (reply.Absent key at) is = absurd (differ (codes "absent") (codes "cost") refl is)
cost_word (reply.Full at) is = absurd (differ (codes "full") (codes "cost") refl is)
cost_word (reply.Code key code at) is = absurd (differ (codes "code") (codes "cost") refl is)
cost_word (reply.Open tag at) is = absurd (differ (codes "open") (codes "cost") refl is)
cost_word (reply.Hit tag dist key) is = absurd (differ (codes "hit") (codes "cost") refl is)
cost_word (reply.More tag) is = absurd (differ (codes "more") (codes "cost") refl is)
cost_word (reply.Done tag count) is = absurd (differ (codes "done") (codes "cost") refl is)
cost_word (reply.Cost tag reads bound) is = (tag, reads, bound, refl)
cost_word (reply.Plan tag shard cost thresholds) is = absurd (differ (codes "plan") (codes "cost") refl is)
cost_word (reply.Cancelled tag count) is = absurd (differ (codes "cancelled") (codes "cost") refl is)
cost_word (reply.Closed tag count) is = absurd (differ (codes "closed") (codes "cost") refl is)
cost_word (reply.Layout shard text) is = absurd (differ (codes "layout") (codes "cost") refl is)
cost_word (reply.Building shard left at) is = absurd (differ (codes "building") (codes "cost") refl is)
cost_word (reply.Built shard left) is = absurd (differ (codes "built") (codes "cost") refl is)
cost_word (reply.Swapped shard at) is = absurd (differ (codes "swapped") (codes "cost") refl is)
cost_word (reply.Moved shard front at) is = absurd (differ (codes "moved") (codes "cost") refl is)
cost_word (reply.Searched shard before after swaps at text) is = absurd (differ (codes "searched") (codes "cost") refl is)
cost_word (reply.Bad fault) is = absurd (differ (codes "bad") (codes "cost") refl is)
cost_word reply.NoMemory is = absurd (differ (codes "nomem") (codes "cost") refl is)

-- the reply that there was no memory, by its first word
pub lacks_word : (this : LineReply) → word_of this ≡ codes "nomem" → lacks_of this ≡ 1
lacks_word (reply.Added key at) is = absurd (differ (codes "added") (codes "nomem") refl is)
lacks_word (reply.Deleted key at) is = absurd (differ (codes "deleted") (codes "nomem") refl is)
lacks_word (reply.Taken key at) is = absurd (differ (codes "taken") (codes "nomem") refl is)
lacks_word (reply.Absent key at) is = absurd (differ (codes "absent") (codes "nomem") refl is)
lacks_word (reply.Full at) is = absurd (differ (codes "full") (codes "nomem") refl is)
lacks_word (reply.Code key code at) is = absurd (differ (codes "code") (codes "nomem") refl is)
lacks_word (reply.Open tag at) is = absurd (differ (codes "open") (codes "nomem") refl is)
lacks_word (reply.Hit tag dist key) is = absurd (differ (codes "hit") (codes "nomem") refl is)
lacks_word (reply.More tag) is = absurd (differ (codes "more") (codes "nomem") refl is)
lacks_word (reply.Done tag count) is = absurd (differ (codes "done") (codes "nomem") refl is)
lacks_word (reply.Cost tag reads bound) is = absurd (differ (codes "cost") (codes "nomem") refl is)
lacks_word (reply.Plan tag shard cost thresholds) is = absurd (differ (codes "plan") (codes "nomem") refl is)
lacks_word (reply.Cancelled tag count) is = absurd (differ (codes "cancelled") (codes "nomem") refl is)
lacks_word (reply.Closed tag count) is = absurd (differ (codes "closed") (codes "nomem") refl is)
lacks_word (reply.Layout shard text) is = absurd (differ (codes "layout") (codes "nomem") refl is)
lacks_word (reply.Building shard left at) is = absurd (differ (codes "building") (codes "nomem") refl is)
lacks_word (reply.Built shard left) is = absurd (differ (codes "built") (codes "nomem") refl is)
lacks_word (reply.Swapped shard at) is = absurd (differ (codes "swapped") (codes "nomem") refl is)
lacks_word (reply.Moved shard front at) is = absurd (differ (codes "moved") (codes "nomem") refl is)
lacks_word (reply.Searched shard before after swaps at text) is = absurd (differ (codes "searched") (codes "nomem") refl is)
lacks_word (reply.Bad fault) is = absurd (differ (codes "bad") (codes "nomem") refl is)
lacks_word reply.NoMemory is = refl

pub other_word : (this : LineReply) → (word_of this ≡ codes "hit" → ⊥) → (word_of this ≡ codes "cost" → ⊥)
    → (word_of this ≡ codes "nomem" → ⊥) → Adds this 0
other_word (reply.Added key at) no_hit no_cost lacks = (refl, refl, refl, refl)
other_word (reply.Deleted key at) no_hit no_cost lacks = (refl, refl, refl, refl)
other_word (reply.Taken key at) no_hit no_cost lacks = (refl, refl, refl, refl)
other_word (reply.Absent key at) no_hit no_cost lacks = (refl, refl, refl, refl)
other_word (reply.Full at) no_hit no_cost lacks = (refl, refl, refl, refl)
other_word (reply.Code key code at) no_hit no_cost lacks = (refl, refl, refl, refl)
other_word (reply.Open tag at) no_hit no_cost lacks = (refl, refl, refl, refl)
other_word (reply.Hit tag dist key) no_hit no_cost lacks = absurd (no_hit refl)
other_word (reply.More tag) no_hit no_cost lacks = (refl, refl, refl, refl)
other_word (reply.Done tag count) no_hit no_cost lacks = (refl, refl, refl, refl)
other_word (reply.Cost tag reads bound) no_hit no_cost lacks = absurd (no_cost refl)
other_word (reply.Plan tag shard cost thresholds) no_hit no_cost lacks = (refl, refl, refl, refl)
other_word (reply.Cancelled tag count) no_hit no_cost lacks = (refl, refl, refl, refl)
other_word (reply.Closed tag count) no_hit no_cost lacks = (refl, refl, refl, refl)
other_word (reply.Layout shard text) no_hit no_cost lacks = (refl, refl, refl, refl)
other_word (reply.Building shard left at) no_hit no_cost lacks = (refl, refl, refl, refl)
other_word (reply.Built shard left) no_hit no_cost lacks = (refl, refl, refl, refl)
other_word (reply.Swapped shard at) no_hit no_cost lacks = (refl, refl, refl, refl)
other_word (reply.Moved shard front at) no_hit no_cost lacks = (refl, refl, refl, refl)
other_word (reply.Searched shard before after swaps at text) no_hit no_cost lacks = (refl, refl, refl, refl)
other_word (reply.Bad fault) no_hit no_cost lacks = (refl, refl, refl, refl)
other_word reply.NoMemory no_hit no_cost lacks = absurd (lacks refl)

-- a word that was compared
pub same_word : (word text other : List ℕ) (same : Bool) → same ≡ bytes_eq word text → text ≡ other → same ≡ true → word ≡ other
same_word word text other same is text_is passed =
    (bytes_eq-Decides word other).0 (ap (bytes_eq word) (sym text_is) ∙ sym is ∙ passed)

pub not_word : (word text other : List ℕ) (same : Bool) → same ≡ bytes_eq word text → text ≡ other → same ≡ false → word ≡ other → ⊥
not_word word text other same is text_is not equal =
    let passed : same ≡ true = is ∙ ap (bytes_eq word) text_is ∙ (bytes_eq-Decides word other).1 equal in
    let both : true ≡ false = sym passed ∙ not in
    cc

-- the first word of a reply, where it was found to be the wanted one
pub said_word : (this : LineReply) (line word after text wanted : List ℕ) (same : Bool) → line ≡ reply_text this → words line ≡ word ∷ words after
    → same ≡ bytes_eq word text → text ≡ wanted → same ≡ true → word_of this ≡ wanted
said_word this line word after text wanted same is first was text_is passed =
    sym (first_is this word (words after) (ap words (sym is) ∙ first)) ∙ same_word word text wanted same was text_is passed

-- the sums with a reply more
pub with_adds : (this : LineReply) (old new : Sums) (hits : ℕ) → Adds this hits → new.hits ≡ old.hits + hits → new.bound ≡ old.bound
    → new.reads ≡ old.reads → AddsReply this old new
with_adds this old new hits adds of_hits of_bound of_reads = record {
  hits = omega (arith, adds.0, of_hits);
  bound = omega (arith, adds.1, of_bound);
  reads = omega (arith, adds.2, of_reads);
  not_lacks = adds.3;
}

-- a reply has a word
pub has_word : (this : LineReply) (line : List ℕ) → line ≡ reply_text this → words line ≡ [] → ⊥
has_word this line is none =
    let found = begins this in
    let both : ◌≡◌ {A = List (List ℕ)} [] (word_of this ∷ found.0) = sym none ∙ ap words is ∙ found.1 in
    cc

-- a reply to `cost`
abbrev IsCost : LineReply → Type 0
IsCost this = (tag : List ℕ) × (reads : ℕ) × (bound : ℕ) × (this ≡ reply.Cost tag reads bound)

-- an answer that reads what follows the first word of a reply to `cost`
abbrev pub ReadsCost : List ℕ → Option (ℕ × ℕ) → Type 0
ReadsCost after answer = (tag : List ℕ) (reads bound : ℕ) → reads < 2 ^ 64 → bound < 2 ^ 64
    → words after ≡ tag ∷ codes "reads" ∷ decimal reads ∷ codes "bound" ∷ decimal bound ∷ [] → answer ≡ Some (reads, bound)

-- it is the reads and the bound that the reply tells
cost_read : (this : LineReply) (line word after : List ℕ) (answer : Option (ℕ × ℕ)) → IsCost this → IsWritten this → line ≡ reply_text this
    → words line ≡ word ∷ words after → ReadsCost after answer → answer ≡ Some (reads_of this, told_bound this)
cost_read this line word after answer told fits is first read =
    let tag = told.0 in
    let reads = told.1 in
    let bound = told.2 in
    let held : IsWritten (reply.Cost tag reads bound) = subst IsWritten told.3 fits in
    let line_is : words line ≡ words (reply_text (reply.Cost tag reads bound)) = ap words is ∙ ap (λ (r : LineReply). words (reply_text r)) told.3 in
    let both = sym first ∙ line_is ∙ cost_words tag reads bound held.0 held.1 held.2 in
    let rest : words after ≡ tag ∷ codes "reads" ∷ decimal reads ∷ codes "bound" ∷ decimal bound ∷ [] = cc in
    read tag reads bound held.1 held.2 rest ∙ ap (λ (r : LineReply). Some (reads_of r, told_bound r)) (sym told.3)

cost_is_read : (this : LineReply) (line word after : List ℕ) → IsCost this → IsWritten this → line ≡ reply_text this
    → words line ≡ word ∷ words after → ReadsCost after None → ⊥
cost_is_read this line word after told fits is first read =
    let both : ◌≡◌ {A = Option (ℕ × ℕ)} None (Some (reads_of this, told_bound this)) = cost_read this line word after None told fits is first read in
    cc

-- the numbers that were read
cost_numbers : (this : LineReply) (line word after : List ℕ) (reads bound : ℕ) → IsCost this → IsWritten this → line ≡ reply_text this
    → words line ≡ word ∷ words after → ReadsCost after (Some (reads, bound)) → (reads ≡ reads_of this) × (bound ≡ told_bound this)
cost_numbers this line word after reads bound told fits is first read =
    let both : Some (reads, bound) ≡ Some (reads_of this, told_bound this) =
    cost_read this line word after (Some (reads, bound)) told fits is first read in
    let pair : (reads, bound) ≡ (reads_of this, told_bound this) = cc in
    (ap (λ (p : ℕ × ℕ). p.0) pair, ap (λ (p : ℕ × ℕ). p.1) pair)

-- the sums with a reply to `cost`
cost_adds : (this : LineReply) (old new : Sums) (reads bound : ℕ) → IsCost this → (reads ≡ reads_of this) × (bound ≡ told_bound this)
    → new.hits ≡ old.hits → new.reads ≡ old.reads + reads → new.bound ≡ old.bound + bound → AddsReply this old new
cost_adds this old new reads bound told numbers of_hits of_reads of_bound =
    let no_hits : hits_of this ≡ 0 = ap hits_of told.3 in
    record {
      hits = omega (arith, of_hits, no_hits);
      bound = omega (arith, of_bound, numbers.1);
      reads = omega (arith, of_reads, numbers.0);
      not_lacks = ap lacks_of told.3;
    }

-- a line whose first word was found to be `cost`
module _ (this : LineReply) (line word after text : List ℕ) (same : Bool) (fits : IsWritten this) (is : line ≡ reply_text this)
    (first : words line ≡ word ∷ words after) (was : same ≡ bytes_eq word text) (text_is : text ≡ codes "cost") (passed : same ≡ true) where
  told : IsCost this
  told = cost_word this (said_word this line word after text (codes "cost") same is first was text_is passed)

  pub cost_must_read : ReadsCost after None → ⊥
  cost_must_read = cost_is_read this line word after told fits is first

  pub cost_told : (reads bound : ℕ) → ReadsCost after (Some (reads, bound)) → (reads ≡ reads_of this) × (bound ≡ told_bound this)
  cost_told reads bound = cost_numbers this line word after reads bound told fits is first

  pub cost_added : (old new : Sums) (reads bound : ℕ) → ReadsCost after (Some (reads, bound)) → new.hits ≡ old.hits
      → new.reads ≡ old.reads + reads → new.bound ≡ old.bound + bound → AddsReply this old new
  cost_added old new reads bound read = cost_adds this old new reads bound told (cost_told reads bound read)

-- ---- replies that can't be added

-- what holds in any case holds where there is no answer
pub if_none : {A : Type 0} (answer : Option A) (P : Type 0) → P → IfNone answer P
if_none None P holds = holds
if_none (Some value) P holds = tt

pub no_more_hits : (this : LineReply) (sums : Sums) → Adds this 1 → (sums.hits + 1 < 2 ^ 64 → ⊥) → ¬ CanAdd this sums
no_more_hits this sums adds above = λ can. above (omega (arith, adds.0, can.few_hits))

pub no_more_reads : (this : LineReply) (sums : Sums) (reads : ℕ) → reads ≡ reads_of this → (sums.reads + reads < 2 ^ 64 → ⊥)
    → ¬ CanAdd this sums
no_more_reads this sums reads is above = λ can. above (omega (arith, is, can.few_reads))

pub no_more_bound : (this : LineReply) (sums : Sums) (bound : ℕ) → bound ≡ told_bound this → (sums.bound + bound < 2 ^ 64 → ⊥)
    → ¬ CanAdd this sums
no_more_bound this sums bound is above = λ can. above (omega (arith, is, can.few_bounds))

pub lacks_memory : (this : LineReply) (sums : Sums) → lacks_of this ≡ 1 → ¬ CanAdd this sums
lacks_memory this sums lacks = λ can. absurd (omega (arith, lacks, can.not_lacks))
