use Rattle.layer_tests.proofs.ways.Ways.try_new.Goals as goal

-- nothing is known at first
pub invariant_of-result : goal.invariant_of-result
invariant_of-result c = record {
  letters_right = c.in_ok-letters.ensures c.args.table.now.rows c.args.pattern.now;
  automaton_right = c.new-automaton.ensures c.args.table.now.rows c.args.pattern.now;
  other_right = c.new-other.ensures c.args.table.now.rows c.args.pattern.now;
  blocks_right = c.new-blocks.ensures c.args.table.now.rows c.args.pattern.now;
  skip_right = c.new-skip.ensures c.args.table.now.rows c.args.pattern.now;
}
