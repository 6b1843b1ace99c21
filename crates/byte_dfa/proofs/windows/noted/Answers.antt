use Rattle.std.proofs.Common.{◌≤◌, arith}
use Rattle.byte_dfa.proofs.MoveLemmas.{come-cursor, follows-back, follows-on}
use Rattle.byte_dfa.proofs.windows.noted.Goals as goal

pub returns-then-end-near-clause-follows : goal.returns-then-end-near-clause-follows
returns-then-end-near-clause-follows c = follows-on c.args.cells.now c.args.piece.now c.args.begun c.args.near c.args.end c.requires.near c.requires.end

pub run-before-requires-clause-cursor : goal.run-before-requires-clause-cursor
run-before-requires-clause-cursor c =
    let cells = c.args.cells.now in
    let piece = c.args.piece.now in
    let back = c.back_to_accepted-back.result in
    come-cursor cells piece c.args.begun back (follows-back cells piece c.args.begun c.args.near back c.requires.begun c.requires.near c.back_to_accepted-back.ensures).0

pub returns-clause-follows : goal.returns-clause-follows
returns-clause-follows c =
    let cells = c.args.cells.now in
    let piece = c.args.piece.now in
    let begun = c.args.begun in
    let near = c.args.near in
    let end = c.args.end in
    let back = c.back_to_accepted-back.result in
    let before = c.run-before.result in
    let went_back = follows-back cells piece begun near back c.requires.begun c.requires.near c.back_to_accepted-back.ensures in
    let within = went_back.0.here.spot.within in
    let up_to : before.at ≤ c.min.result = c.run-before.ensures.to (omega (arith, within, went_back.1, c.min.ensures)) in
    let order = c.run-before.ensures.follows.order in
    let on = c.requires.end.here.on in
    record {
      here = (follows-on cells piece begun near end c.requires.near c.requires.end).here;
      order = omega (arith, order, up_to, on, c.min.ensures);
      accepted = (follows-on cells piece begun back before went_back.0 c.run-before.ensures.follows).accepted;
    }
