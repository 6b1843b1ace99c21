-- The laws of points on which it stands that characters are taken before the one that follows.
use Rattle.nfd_points.specs.Laws.{AsciiIsItself, DecompositionsAreShort, FewPointsAreGood, StartersBeginAnew, BytesOfParts, PointsOfParts, PointsAreShifted, OrderingIsShifted, OrderingStopsAtStarters}

pub record LetterLaws : Type 0 where
  pub ascii : AsciiIsItself
  pub short : DecompositionsAreShort
  pub few : FewPointsAreGood
  pub anew : StartersBeginAnew
  pub bytes : BytesOfParts
  pub parts : PointsOfParts
  pub shifted : PointsAreShifted
  pub order_shifted : OrderingIsShifted
  pub at_starters : OrderingStopsAtStarters
