use Rattle.collation_skip.proofs.classes.is_right.Goals as goal

pub returns-clause-class : goal.returns-clause-class
returns-clause-class c = λ yes table h.
    let says = c.kind_of-kind.ensures table c.args.byte h in
    let halt = c.has.ensures c.if-not-has.false in
    let key = c.has-2.ensures c.if-not-has-2.false in
    let later = c.has-3.ensures c.if-not-has-3.false in
    let joins = c.has-4.ensures c.if-not-has-4.false in
    let inner = c.has-5.ensures yes in
    record {
      whole = λ h'. says.whole (halt h');
      any = λ h'. says.any (halt h');
      other = λ h' k. says.other (halt h') (key k);
      behind = λ h' l. says.behind (halt h') (later l);
      back = λ h' k l. says.back (halt h') (key k) (later l);
      closed = λ j. says.closed (joins j);
      apart = λ i. says.apart (inner i);
    }

pub returns-clause-clean : goal.returns-clause-clean
returns-clause-clean c = λ yes some. c.leaves_none-leaves.ensures (c.has_only_if.ensures c.if-not-has_only_if.false some)
