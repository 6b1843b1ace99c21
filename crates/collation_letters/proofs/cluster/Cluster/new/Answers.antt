use Rattle.std.proofs.Common.{◌∙◌, [], ◌++◌, length, refl, sym, ap, arith}
use Rattle.std.proofs.lemmas.Bool.{false≢true}
use Rattle.std.proofs.lemmas.List.{append-nil}
use Rattle.collation_letters.proofs.cluster.Cluster.new.Goals as goal

pub returns-clause-cluster : goal.returns-clause-cluster
returns-clause-cluster c = λ depth table pattern ps h.
    record {
      first = ps;
      before = [];
      last = [];
      all = sym (append-nil (ps ++ []) ∙ append-nil ps);
      letter = h;
      base = h;
      closed = refl;
      before_is = record { one = λ yes. absurd (false≢true yes); none = λ no. refl; free = λ no p is. absurd (omega (arith, ap length is)) };
      last_is = record { one = λ yes. absurd (false≢true yes); none = λ no. refl; free = λ no p is. absurd (omega (arith, ap length is)) };
    }
