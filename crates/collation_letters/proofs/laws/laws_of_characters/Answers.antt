use Rattle.collation_letters.proofs.laws.laws_of_characters.Goals as goal

pub returns : goal.returns
returns c =
    let decompositions = c.laws_of_decompositions.ensures in
    let faults = c.laws_of_faults.ensures in
    let points = c.laws_of_points.ensures in
    let ordering = c.laws_of_ordering.ensures in
    record {
      ascii = decompositions.ascii;
      short = decompositions.short;
      few = faults.few;
      anew = faults.anew;
      bytes = points.bytes_of_parts;
      parts = points.parts;
      shifted = points.shifted;
      order_shifted = ordering.shifted;
      at_starters = ordering.at_starters;
    }
