use Rattle.collation_skip.proofs.two_byte_sets.is_right.Goals as goal

pub returns : goal.returns
returns c = λ yes table character h.
    let says = c.kind_of-kind.ensures table character h in
    let halt = c.if-kind.false in
    let inner = c.if-kind-2.false in
    let key = c.holds.ensures c.if-not-holds.false in
    let later = c.holds-2.ensures yes in
    record {
      whole = λ _. says.whole halt;
      any = λ _. says.any halt;
      other = λ _ k. says.other halt (key k);
      behind = λ _ l. says.behind halt (later l);
      back = λ _ k l. says.back halt (key k) (later l);
      closed = λ none. absurd none;
      apart = λ _. says.apart inner;
    }
