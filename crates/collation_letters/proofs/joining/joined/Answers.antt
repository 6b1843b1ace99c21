use Rattle.std.proofs.Common.{◌≡◌, ◌∙◌, List, [], ◌++◌, true, refl, sym, ap, ap₂, subst}
use Rattle.std.proofs.lemmas.List.{append-nil}
use Rattle.collation_elements.specs.declared.keys.Key.{Key}
use Rattle.collation_letters.specs.Letters.{begins_cluster, is_mark, flag_after, counted}
use Rattle.collation_letters.specs.Symbols.{AreLastSymbols, AreSymbolsAt, listed}
use Rattle.collation_letters.proofs.SymbolLemmas.{last-none}
use Rattle.collation_letters.proofs.joining.joined.Goals as goal

pub returns-in-VariableBase-Mark-clause-joins : goal.returns-in-VariableBase-Mark-clause-joins
returns-in-VariableBase-Mark-clause-joins c =
    let base = c.in-VariableBase-Mark.is-0 in
    let mark = c.in-VariableBase-Mark.is-1 in
    record {
      base_begins = ap begins_cluster base;
      mark_joins = ap is_mark mark;
      begins = refl;
      flag = λ after. sym (ap (λ r. flag_after r (flag_after c.args.base.role after)) mark ∙ ap (λ r. flag_after r after) base);
      symbols = λ depth pattern keys later after h k.
          let flag : flag_after c.args.base.role after ≡ true = ap (λ r. flag_after r after) base in
          let none : counted c.args.mark.role (flag_after c.args.base.role after) (listed c.args.mark.symbols) ≡ [] =
          ap₂ (λ r b. counted r b (listed c.args.mark.symbols)) mark flag in
          let nothing = last-none pattern later (subst (λ l. AreLastSymbols pattern later l) none k) in
          subst (λ (l : List Key). AreSymbolsAt depth pattern l (listed c.args.base.symbols)) (sym (ap (λ (l : List Key). keys ++ l) nothing ∙ append-nil keys)) h;
    }

pub returns-in_ok-with_all-in-Plain-PrimaryMark-clause-joins : goal.returns-in_ok-with_all-in-Plain-PrimaryMark-clause-joins
returns-in_ok-with_all-in-Plain-PrimaryMark-clause-joins c =
    let base = c.in-Plain-PrimaryMark.is-0 in
    let mark = c.in-Plain-PrimaryMark.is-1 in
    record {
      base_begins = ap begins_cluster base;
      mark_joins = ap is_mark mark;
      begins = refl;
      flag = λ after. sym (ap (λ r. flag_after r (flag_after c.args.base.role after)) mark);
      symbols = λ depth pattern keys later after h k. c.in_ok-with_all-in-Plain-PrimaryMark.ensures depth pattern keys later h (subst (λ l. AreLastSymbols pattern later l) (ap (λ r. counted r (flag_after c.args.base.role after) (listed c.args.mark.symbols)) mark) k);
    }

pub returns-in_ok-with_all-in-Plain-Mark-clause-joins : goal.returns-in_ok-with_all-in-Plain-Mark-clause-joins
returns-in_ok-with_all-in-Plain-Mark-clause-joins c =
    let base = c.in-Plain-Mark.is-0 in
    let mark = c.in-Plain-Mark.is-1 in
    record {
      base_begins = ap begins_cluster base;
      mark_joins = ap is_mark mark;
      begins = refl;
      flag = λ after. sym (ap₂ (λ r b. flag_after r b) mark (ap (λ r. flag_after r after) base));
      symbols = λ depth pattern keys later after h k. c.in_ok-with_all-in-Plain-Mark.ensures depth pattern keys later h (subst (λ l. AreLastSymbols pattern later l) (ap₂ (λ r b. counted r b (listed c.args.mark.symbols)) mark (ap (λ r. flag_after r after) base)) k);
    }

pub returns-in_ok-with_all-in-Base-PrimaryMark-clause-joins : goal.returns-in_ok-with_all-in-Base-PrimaryMark-clause-joins
returns-in_ok-with_all-in-Base-PrimaryMark-clause-joins c =
    let base = c.in-Base-PrimaryMark.is-0 in
    let mark = c.in-Base-PrimaryMark.is-1 in
    record {
      base_begins = ap begins_cluster base;
      mark_joins = ap is_mark mark;
      begins = refl;
      flag = λ after. sym (ap (λ r. flag_after r (flag_after c.args.base.role after)) mark);
      symbols = λ depth pattern keys later after h k. c.in_ok-with_all-in-Base-PrimaryMark.ensures depth pattern keys later h (subst (λ l. AreLastSymbols pattern later l) (ap (λ r. counted r (flag_after c.args.base.role after) (listed c.args.mark.symbols)) mark) k);
    }

pub returns-in_ok-with_all-in-Base-Mark-clause-joins : goal.returns-in_ok-with_all-in-Base-Mark-clause-joins
returns-in_ok-with_all-in-Base-Mark-clause-joins c =
    let base = c.in-Base-Mark.is-0 in
    let mark = c.in-Base-Mark.is-1 in
    record {
      base_begins = ap begins_cluster base;
      mark_joins = ap is_mark mark;
      begins = refl;
      flag = λ after. sym (ap₂ (λ r b. flag_after r b) mark (ap (λ r. flag_after r after) base));
      symbols = λ depth pattern keys later after h k. c.in_ok-with_all-in-Base-Mark.ensures depth pattern keys later h (subst (λ l. AreLastSymbols pattern later l) (ap₂ (λ r b. counted r b (listed c.args.mark.symbols)) mark (ap (λ r. flag_after r after) base)) k);
    }

pub returns-in_ok-with_all-in-VariableBase-PrimaryMark-clause-joins : goal.returns-in_ok-with_all-in-VariableBase-PrimaryMark-clause-joins
returns-in_ok-with_all-in-VariableBase-PrimaryMark-clause-joins c =
    let base = c.in-VariableBase-PrimaryMark.is-0 in
    let mark = c.in-VariableBase-PrimaryMark.is-1 in
    record {
      base_begins = ap begins_cluster base;
      mark_joins = ap is_mark mark;
      begins = refl;
      flag = λ after. sym (ap (λ r. flag_after r (flag_after c.args.base.role after)) mark);
      symbols = λ depth pattern keys later after h k. c.in_ok-with_all-in-VariableBase-PrimaryMark.ensures depth pattern keys later h (subst (λ l. AreLastSymbols pattern later l) (ap (λ r. counted r (flag_after c.args.base.role after) (listed c.args.mark.symbols)) mark) k);
    }
