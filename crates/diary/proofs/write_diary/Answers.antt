-- `write_diary` meets its contract: the session is played on tables of zeros, and what it leaves is listed.
use Rattle.diary_session.specs.Session.{ended, played}
use Rattle.diary_session.proofs.Chains.{promise_on}
use Rattle.diary_session.proofs.Printed.{listing_fits, text_written}
use Rattle.diary.proofs.write_diary.Goals as goal

pub write_listing-requires : goal.write_listing-requires
unfolding played
write_listing-requires c = listing_fits (promise_on ended c.begin_session-begun.ensures c.end_session-ended.ensures) c.requires

pub returns : goal.returns
unfolding played
returns c = text_written (promise_on ended c.begin_session-begun.ensures c.end_session-ended.ensures) c.write_listing.ensures
