-- What the replies of a session add up to.
use Rattle.std.specs.Prelude.{◌≡◌, ℕ, ◌+◌, ◌<◌, ◌^◌, List, sum_by}
use Rattle.query_protocol.specs.Replies.{LineReply, Hit, Cost, NoMemory}
use Rattle.load_sums.specs.declared.sums.Sums.{Sums}

-- one for a hit
abbrev pub hits_of : LineReply → ℕ
hits_of (Hit tag dist key) = 1
hits_of reply = 0

-- the bound that `cost` tells
abbrev pub told_bound : LineReply → ℕ
told_bound (Cost tag reads bound) = bound
told_bound reply = 0

-- the postings read that `cost` tells
abbrev pub reads_of : LineReply → ℕ
reads_of (Cost tag reads bound) = reads
reads_of reply = 0

-- one for a reply that there was no memory
abbrev pub lacks_of : LineReply → ℕ
lacks_of NoMemory = 1
lacks_of reply = 0

-- the sums of replies, none of which is that there was no memory
pub record IsSumOf (replies : List LineReply) (sums : Sums) : Type 0 where
  pub hits : sums.hits ≡ sum_by hits_of replies
  pub bound : sums.bound ≡ sum_by told_bound replies
  pub reads : sums.reads ≡ sum_by reads_of replies
  pub none_lacks : sum_by lacks_of replies ≡ 0

-- none of the replies is that there was no memory, and each sum is at most the greatest u64
pub record HaveSums (replies : List LineReply) : Type 0 where
  pub none_lacks : sum_by lacks_of replies ≡ 0
  pub few_hits : sum_by hits_of replies < 2 ^ 64
  pub few_bounds : sum_by told_bound replies < 2 ^ 64
  pub few_reads : sum_by reads_of replies < 2 ^ 64

-- a reply isn't that there was no memory, and each sum with it is at most the greatest u64
pub record CanAdd (reply : LineReply) (sums : Sums) : Type 0 where
  pub not_lacks : lacks_of reply ≡ 0
  pub few_hits : sums.hits + hits_of reply < 2 ^ 64
  pub few_bounds : sums.bound + told_bound reply < 2 ^ 64
  pub few_reads : sums.reads + reads_of reply < 2 ^ 64

-- the sums with one reply more, which isn't that there was no memory
pub record AddsReply (reply : LineReply) (old new : Sums) : Type 0 where
  pub hits : new.hits ≡ old.hits + hits_of reply
  pub bound : new.bound ≡ old.bound + told_bound reply
  pub reads : new.reads ≡ old.reads + reads_of reply
  pub not_lacks : lacks_of reply ≡ 0

-- replies of which these are left to add, with the sums of the others
pub record IsSumBefore (replies left : List LineReply) (sums : Sums) : Type 0 where
  pub hits : sums.hits + sum_by hits_of left ≡ sum_by hits_of replies
  pub bound : sums.bound + sum_by told_bound left ≡ sum_by told_bound replies
  pub reads : sums.reads + sum_by reads_of left ≡ sum_by reads_of replies
  pub none_lacks : sum_by lacks_of left ≡ sum_by lacks_of replies
