-- The code's calls as the calls of a history.
use Rattle.frames.specs.Blocks.{octets_in}
use Rattle.link.specs.declared.call.Call.{Call as Code}
use Rattle.link.specs.declared.call.Call.TheVariants as code
use Rattle.link.specs.History.{Call, opens, closes, polls, ticks, sends, takes, fetches, strikes}

abbrev pub meant : Code → Call
meant code.Open = opens
meant code.Close = closes
meant code.Poll = polls
meant code.Tick = ticks
meant (code.Send e z) = sends e (octets_in z)
meant (code.Take e) = takes e
meant (code.Fetch e) = fetches e
meant (code.Strike w place burst) = strikes w place burst.start burst.mask
