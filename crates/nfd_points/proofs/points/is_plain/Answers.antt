use Rattle.std.proofs.Common.{sym, ◌∙◌, ltb-true}
use Rattle.nfd_points.proofs.DecompositionLemmas.{ascii-plain, decomposition-passes}
use Rattle.nfd_points.proofs.points.is_plain.Goals as goal

pub returns-then-is_ascii-clause-plain : goal.returns-then-is_ascii-clause-plain
returns-then-is_ascii-clause-plain c _ = ascii-plain c.args.c (ltb-true c.args.c 128 (sym c.is_ascii.ensures ∙ c.if-is_ascii.true))

pub returns-in-Yes-clause-plain : goal.returns-in-Yes-clause-plain
returns-in-Yes-clause-plain c _ = record {
  itself = decomposition-passes c.args.c (sym c.class_and_quick_check-class.ensures.answer ∙ c.in-Yes.is);
  starter = sym c.class_and_quick_check-class.ensures.class ∙ c.if-class-eq0.true;
}
