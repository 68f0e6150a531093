-- Detection points: the number and the name of each.
use Rattle.std.specs.Prelude.{ℕ, Bool, ◌||◌, List, codes}
use Rattle.terms.specs.Ranges.{within}
use Rattle.terms.specs.declared.point.Point.{Point}
use Rattle.terms.specs.declared.point.Point.TheVariants as P

abbrev pub point_number : Point → ℕ
point_number P.OrigAttemptAuthorized = 1
point_number P.CollectedInfo = 2
point_number P.AnalyzedInformation = 3
point_number P.RouteSelectFailure = 4
point_number P.OCalledPartyBusy = 5
point_number P.ONoAnswer = 6
point_number P.OAnswer = 7
point_number P.OMidCall = 8
point_number P.ODisconnect = 9
point_number P.OAbandon = 10
point_number P.TermAttemptAuthorized = 12
point_number P.TCalledPartyBusy = 13
point_number P.TNoAnswer = 14
point_number P.TAnswer = 15
point_number P.TMidCall = 16
point_number P.TDisconnect = 17
point_number P.TAbandon = 18

-- whether a number is that of a detection point
abbrev pub is_point : ℕ → Bool
is_point n = within 1 10 n || within 12 18 n

-- the point's name in the trade
abbrev pub point_name : Point → List ℕ
point_name P.OrigAttemptAuthorized = codes "origAttemptAuthorized"
point_name P.CollectedInfo = codes "collectedInfo"
point_name P.AnalyzedInformation = codes "analyzedInformation"
point_name P.RouteSelectFailure = codes "routeSelectFailure"
point_name P.OCalledPartyBusy = codes "oCalledPartyBusy"
point_name P.ONoAnswer = codes "oNoAnswer"
point_name P.OAnswer = codes "oAnswer"
point_name P.OMidCall = codes "oMidCall"
point_name P.ODisconnect = codes "oDisconnect"
point_name P.OAbandon = codes "oAbandon"
point_name P.TermAttemptAuthorized = codes "termAttemptAuthorized"
point_name P.TCalledPartyBusy = codes "tCalledPartyBusy"
point_name P.TNoAnswer = codes "tNoAnswer"
point_name P.TAnswer = codes "tAnswer"
point_name P.TMidCall = codes "tMidCall"
point_name P.TDisconnect = codes "tDisconnect"
point_name P.TAbandon = codes "tAbandon"
