-- The text of what an event is answered: a line each.
use Rattle.std.specs.Prelude.{ℕ, List, [], ◌∷◌, ◌++◌, codes, decimal, Ok, Err}
use Rattle.commit_journal.specs.declared.decided.Decided.{Decided}
use Rattle.entry_log.specs.declared.decision.Decision.{Decision}
use Rattle.entry_log.specs.declared.decision.Decision.TheVariants as decision
use Rattle.entry_log.specs.Meaning.{operation_key}
use Rattle.hit_source.specs.declared.polled.Polled.{Polled}
use Rattle.hit_source.specs.declared.polled.Polled.TheVariants as polled
use Rattle.query_protocol.specs.Replies.{LineReply, reply_text}
use Rattle.query_protocol.specs.Replies as reply
use Rattle.world_model.specs.declared.refused.Refused.{Refused}
use Rattle.world_model.specs.declared.refused.Refused.TheVariants as refused
use Rattle.world_model.specs.declared.told.Told.{Told}
use Rattle.world_model.specs.declared.told.Told.TheVariants as told
use Rattle.world_model.specs.Events.{Event, Commit, Open, Advance, Pin, Poll, Give, Cancel}
use Rattle.world_model.specs.Events.{BuildStart, BuildStep, Follow, Swap}
use Rattle.world_model.specs.Runs.{Answer}

-- the number that stands in an event's answer for what the event is about: a key, a query or a
-- shard; the answers of openings and polls have none
abbrev pub subject : Event → ℕ
subject (Commit who operation) = operation_key operation
subject (Open who ask) = 0
subject (Advance query shard) = shard
subject (Pin query shard) = query
subject (Poll query shard budget) = 0
subject (Give query) = query
subject (Cancel query) = query
subject (BuildStart shard layout) = shard
subject (BuildStep shard rows) = shard
subject (Follow shard) = shard
subject (Swap shard) = shard

-- what a session would be replied to a decision on the row of a key
abbrev pub reply_of : ℕ → Decision → ℕ → LineReply
reply_of key decision.Added at = reply.Added key at
reply_of key decision.Taken at = reply.Taken key at
reply_of key decision.Deleted at = reply.Deleted key at
reply_of key decision.Absent at = reply.Absent key at
reply_of key decision.Full at = reply.Full at

-- how a poll ended
abbrev pub polled_text : Polled → List ℕ
polled_text polled.Moved = codes "polled moved"
polled_text polled.Full = codes "polled full"
polled_text polled.Ended = codes "polled ended"

-- a number after its label
abbrev pub labelled : List ℕ → ℕ → List ℕ
labelled label number = label ++ decimal number

-- what an event is told, by the number of its subject
abbrev pub told_text : ℕ → Told → List ℕ
told_text about (told.Decided decided) =
    reply_text (reply_of about decided.decision decided.position)
told_text about (told.Opened query position) =
    labelled (codes "query ") query ++ labelled (codes " at ") position
told_text about (told.Advanced at) =
    labelled (codes "shard ") about ++ labelled (codes " at ") at
told_text about (told.Pinned left) =
    labelled (codes "pinned ") about ++ labelled (codes " left ") left
told_text about (told.Polled polled) = polled_text polled
told_text about told.Held = codes "polled held"
told_text about (told.Gave hit) =
    labelled (codes "hit ") about ++ labelled (codes " ") hit.dist
    ++ labelled (codes " ") hit.key
told_text about told.NotYet = labelled (codes "notyet ") about
told_text about (told.Ended count) = labelled (codes "end ") about ++ labelled (codes " ") count
told_text about (told.Cancelled count) =
    labelled (codes "cancelled ") about ++ labelled (codes " ") count
told_text about (told.Built left) =
    labelled (codes "built ") about ++ labelled (codes " left ") left
told_text about (told.Followed at) =
    labelled (codes "followed ") about ++ labelled (codes " at ") at
told_text about (told.Swapped at) =
    labelled (codes "swapped ") about ++ labelled (codes " at ") at

-- why an event is refused
abbrev pub refused_text : Refused → List ℕ
refused_text refused.NoShard = codes "no shard"
refused_text refused.NoQuery = codes "no query"
refused_text refused.Closed = codes "closed"
refused_text refused.Many = codes "many"
refused_text refused.Unfronted = codes "no front"
refused_text refused.NotPinned = codes "no pin"
refused_text refused.Building = codes "has build"
refused_text refused.NoBuild = codes "no build"
refused_text (refused.Unready left) = labelled (codes "unready ") left
refused_text (refused.Moved shard_at) = labelled (codes "moved ") shard_at
refused_text refused.NoMemory = codes "nomem"

-- an answer without its line feed, by the number of its event's subject
abbrev pub answer_text : ℕ → Answer → List ℕ
answer_text about (Ok said) = told_text about said
answer_text about (Err why) = refused_text why

-- the line of an answer
abbrev pub answer_line : ℕ → Answer → List ℕ
answer_line about answer = answer_text about answer ++ 10 ∷ []
