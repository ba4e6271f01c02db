use Rattle.query_protocol.proofs.FeedLemmas.{reply_no_feed}
use Rattle.query_protocol.proofs.laws.lines_of_replies.Goals as goal

pub returns : goal.returns
returns c = reply_no_feed c.bytes_of_layouts.ensures
