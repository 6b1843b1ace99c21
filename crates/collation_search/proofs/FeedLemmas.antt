-- Pieces of a text in turn, and calls of a sink in turn.
use Rattle.std.specs.Prelude.{Result, OnOk, OnErr, IfErr, Ok, Err, Option, None, Some}
use Rattle.std.proofs.Common.{◌≡◌, ◌∙◌, ℕ, zero, suc, ◌+◌, ◌<◌, ◌≤◌, max, false, List, [], ◌∷◌, ◌++◌, length, true, inl, refl, sym, ap, subst, arith, append_assoc, length-append}
use Rattle.std.specs.Str.{chars}
use Rattle.std.proofs.lemmas.List.{append-nil}
use Rattle.collation_table.specs.declared.lookup.Weights.{Ghosts}
use Rattle.collation_matches.specs.declared.faults.TextFault.{TextFault}
use Rattle.collation_search.specs.declared.search.Search.{Search}
use Rattle.collation_matches.specs.Answer.{Answer}
use Rattle.nfd_points.specs.Laws.{DecompositionsAreShort}
use Rattle.collation_table.specs.Table.{longest_mapped}
use Rattle.collation_elements.specs.Decided.{left_points, EarlyCutsAreMadeGood}
use Rattle.collation_matches.specs.GoodPrefix.{is_good_so_far, whole}
use Rattle.collation_search.specs.Early.{starters_from}
use Rattle.collation_search.specs.Search.{HasSearched, HasTaken, HasReported, HasReportedNone, sought}
use Rattle.collation_search.specs.StateAfter.{final_points, IsReported}
use Rattle.collation_matches.specs.Sought.{IsCompiledFrom, Sought, answer_to}
use Rattle.collation_search.specs.Feeding.{fault_of, Feeds, MayCut, TakesPart}
use Rattle.collation_search.proofs.StarterCounts.{made-good, made-good_none}
use Rattle.collation_search.proofs.StateLemmas.{StateLaws, reported-known, fault-known}

-- ---- results

on_ok-map : {A E : Type 0} → (r : Result A E) (P Q : Type 0) → (P → Q) → OnOk r P → OnOk r Q
on_ok-map (Ok a) P Q f h = f h
on_ok-map (Err e) P Q f h = tt

on_err-map : {A E : Type 0} → (r : Result A E) (P Q : Type 0) → (P → Q) → OnErr r P → OnErr r Q
on_err-map (Ok a) P Q f h = tt
on_err-map (Err e) P Q f h = f h

if_err-map : {A E : Type 0} → (r : Result A E) (P Q : E → Type 0) → ((e : E) → P e → Q e) → IfErr r P → IfErr r Q
if_err-map (Ok a) P Q f h = tt
if_err-map (Err e) P Q f h = f e h

ok_not_err : {A E : Type 0} → (a : A) (e : E) → Ok a ≡ Err e → ⊥
ok_not_err a e h = cc

pub err_of : (f g : TextFault) → Some f ≡ Some g → let r : Result (Unit {0}) TextFault = Err f in r ≡ Err g
err_of f g e = let same : f ≡ g = cc in ap (λ t. let r : Result (Unit {0}) TextFault = Err t in r) same

pub none_of : (o : Option TextFault) → ((f : TextFault) → o ≡ Some f → ⊥) → o ≡ None
none_of None h = refl
none_of (Some f) h = absurd (h f refl)

pub none_or_some : (o : Option TextFault) (f : TextFault) → o ≡ None → o ≡ Some f → ⊥
none_or_some o f none some = cc

-- a fact of an answer, in each case
by_answer : {E : Type 0} → (r : Result (Unit {0}) E) (P : Result (Unit {0}) E → Type 0) → (OnOk r (P (Ok tt))) → IfErr r (λ e. P (Err e)) → P r
by_answer (Ok done) P ok err = ok
by_answer (Err e) P ok err = err

on_ok-all : {E : Type 0} → (r : Result (Unit {0}) E) (Far P : ℕ → Type 0) (Q : Type 0) → (((place : ℕ) → Far place → P place) → Q) → ((place : ℕ) → Far place → OnOk r (P place)) → OnOk r Q
on_ok-all (Ok done) Far P Q f h = f h
on_ok-all (Err e) Far P Q f h = tt

one_byte : (u : List ℕ) (byte : ℕ) (more : List ℕ) → (u ++ byte ∷ []) ++ more ≡ u ++ byte ∷ more
one_byte u byte more = append_assoc u (byte ∷ []) more

-- from the place up to which units may be cut early, enough characters that begin with a starter are left to the steps
abbrev pub LeavesEnough : Sought → ℕ → List ℕ → Type 0
LeavesEnough s reach piece =
    (u : List ℕ) → is_good_so_far (u ++ piece) ≡ true → 0 < reach → max 2 (longest_mapped s.table) ≤ suc (starters_from (length u + reach) (chars (whole (u ++ piece))))

module _ {W : Type 0} {G : Ghosts W} where
  -- nothing was taken yet
  pub takes-none : (search : Search W G) (reach : ℕ) → ((f : TextFault) → HasReported search f → ⊥) → TakesPart search reach [] (Ok tt) [] search
  takes-none search reach none = λ place. record {
    stands = λ u handed h.
        subst (λ t. HasTaken search place t (handed ++ [])) (sym (append-nil u)) (subst (λ (t : List (ℕ × ℕ)). HasTaken search place u t) (sym (append-nil handed)) h.1);
    known = λ u handed h. tt;
    ended = λ u more handed h. tt;
    answer = λ text u more handed compiled h. tt;
    closed = λ u more handed h. tt;
    reported = tt;
    again = λ f h. absurd (none f h);
    none = none_of search.fault none;
    memory = tt;
    same_sought = refl;
  }

  -- one part of a piece and then another
  pub takes-append : (a b c : Search W G) (near later reach : ℕ) (p q : List ℕ) (r : Result (Unit {0}) TextFault) (xs ys : List (ℕ × ℕ)) →
      (0 < near → near ≤ reach) → (0 < later → length p + later ≤ reach) → TakesPart a near p (Ok tt) xs b → TakesPart b later q r ys c → TakesPart a reach (p ++ q) r (xs ++ ys) c
  takes-append a b c near later reach p q r xs ys near_in later_in first second = λ place. record {
    stands = λ u handed h.
        on_ok-map r _ _
        (λ s. subst (λ t. HasTaken c place t (handed ++ (xs ++ ys))) (append_assoc u p q)
        (subst (λ (t : List (ℕ × ℕ)). HasTaken c place ((u ++ p) ++ q) t) (append_assoc handed xs ys) s))
        ((second place).stands (u ++ p) (handed ++ xs) (between place u handed h));
    known = λ u handed h. tt;
    ended = λ u more handed h.
        if_err-map r _ _
        (λ f e. subst (λ t. IsReported (sought a) (t ++ more) (handed ++ (xs ++ ys)) (Some f)) (append_assoc u p q)
        (subst (λ (t : List (ℕ × ℕ)). IsReported (sought a) (((u ++ p) ++ q) ++ more) t (Some f)) (append_assoc handed xs ys)
        (subst (λ (s : Sought). IsReported s (((u ++ p) ++ q) ++ more) ((handed ++ xs) ++ ys) (Some f)) (first place).same_sought e)))
        ((second place).ended (u ++ p) more (handed ++ xs) (between place u handed h));
    answer = λ text u more handed compiled h.
        let same = (first place).same_sought in
        if_err-map r _ _
        (λ f e.
        ap (λ t. answer_to (sought a) text (t ++ more)) (sym (append_assoc u p q))
        ∙ ap (λ (s : Sought). answer_to s text (((u ++ p) ++ q) ++ more)) (sym same)
        ∙ e
        ∙ ap (λ (t : List (ℕ × ℕ)). let z : Answer = record { ranges = t; fault = Some f } in z) (append_assoc handed xs ys))
        ((second place).answer text (u ++ p) more (handed ++ xs) (subst (λ (s : Sought). IsCompiledFrom s text) (sym same) compiled) (between place u handed h));
    closed = λ u more handed h.
        on_err-map r _ _ (λ e. ap (λ t. is_good_so_far (t ++ more)) (sym (append_assoc u p q)) ∙ e)
        ((second place).closed (u ++ p) more (handed ++ xs) (between place u handed h));
    reported = (second place).reported;
    again = λ f h. absurd (ok_not_err tt f ((first place).again f h).0);
    none = (second place).none;
    memory = if_err-map r _ _ (λ f h kind. absurd (none_or_some b.fault f (first place).none (h kind))) (second place).memory;
    same_sought = (second place).same_sought ∙ (first place).same_sought;
  }
    where
      between : (place : ℕ) (u : List ℕ) (handed : List (ℕ × ℕ)) → MayCut a reach place u handed → MayCut b later place (u ++ p) (handed ++ xs)
      between place u handed h = (
        λ some.
            let within = later_in some in
            let far = h.0 (omega (arith, some, within)) in
            let sum = length-append u p in
            omega (arith, within, far, sum),
        (first place).stands u handed (
          λ some.
              let within = near_in some in
              let far = h.0 (omega (arith, some, within)) in
              omega (arith, within, far),
          h.1,
        ),
      )

  -- after a fault the rest of a piece is not read
  pub takes-stop : (a b : Search W G) (reach : ℕ) (p q : List ℕ) (f : TextFault) (xs : List (ℕ × ℕ)) → TakesPart a reach p (Err f) xs b → TakesPart a reach (p ++ q) (Err f) xs b
  takes-stop a b reach p q f xs h = λ place. record {
    stands = λ u handed s. tt;
    known = λ u handed h. tt;
    ended = λ u more handed s. subst (λ t. IsReported (sought a) t (handed ++ xs) (Some f)) (sym (later u more)) ((h place).ended u (q ++ more) handed s);
    answer = λ text u more handed compiled s. ap (λ t. answer_to (sought a) text t) (later u more) ∙ (h place).answer text u (q ++ more) handed compiled s;
    closed = λ u more handed s. ap is_good_so_far (later u more) ∙ (h place).closed u (q ++ more) handed s;
    reported = (h place).reported;
    again = (h place).again;
    none = tt;
    memory = (h place).memory;
    same_sought = (h place).same_sought;
  }
    where
      later : (u more : List ℕ) → (u ++ (p ++ q)) ++ more ≡ (u ++ p) ++ (q ++ more)
      later u more = ap (λ t. t ++ more) (sym (append_assoc u p q)) ∙ append_assoc (u ++ p) q more

  -- a fault that was reported before is reported again, and nothing is handed out
  pub takes-reported : (search : Search W G) (reach : ℕ) (piece : List ℕ) (f : TextFault) → HasReported search f → TakesPart search reach piece (Err f) [] search
  takes-reported search reach piece f reported = λ place. record {
    stands = λ u handed h. tt;
    known = λ u handed h. tt;
    ended = λ u more handed h. absurd (none_or_some search.fault f h.1.no_fault reported);
    answer = λ text u more handed compiled h. absurd (none_or_some search.fault f h.1.no_fault reported);
    closed = λ u more handed h. absurd (none_or_some search.fault f h.1.no_fault reported);
    reported = reported;
    again = λ g h. (err_of f g (sym reported ∙ h), refl);
    none = tt;
    memory = λ kind. reported;
    same_sought = refl;
  }

  -- one byte is a part of a piece
  pub takes-byte : (a b : Search W G) (byte : ℕ) (r : Result (Unit {0}) TextFault) (found : List (ℕ × ℕ)) →
      ((place : ℕ) (u : List ℕ) (handed : List (ℕ × ℕ)) → HasTaken a place u handed → OnOk r (HasTaken b place (u ++ byte ∷ []) (handed ++ found))) →
      ((place : ℕ) (u more : List ℕ) (handed : List (ℕ × ℕ)) → HasTaken a place u handed → IfErr r (λ f. IsReported (sought a) (u ++ byte ∷ more) (handed ++ found) (Some f))) →
      ((place : ℕ) (text u more : List ℕ) (handed : List (ℕ × ℕ)) → IsCompiledFrom (sought a) text → HasTaken a place u handed →
      IfErr r (λ f. answer_to (sought a) text (u ++ byte ∷ more) ≡ record { ranges = handed ++ found; fault = Some f })) →
      ((place : ℕ) (u more : List ℕ) (handed : List (ℕ × ℕ)) → HasTaken a place u handed → OnErr r (is_good_so_far (u ++ byte ∷ more) ≡ false)) →
      IfErr r (λ f. HasReported b f) → ((f : TextFault) → HasReported a f → (r ≡ Err f) × (found ≡ [])) →
      OnOk r (HasReportedNone b) → IfErr r (λ f. f.kind ≡ 35 → HasReported a f) → sought b ≡ sought a →
      TakesPart a 0 (byte ∷ []) r found b
  takes-byte a b byte r found stands ended answer closed reported again none memory same = λ place. record {
    stands = λ u handed h. stands place u handed h.1;
    known = λ u handed h. tt;
    ended = λ u more handed h.
        let Q : List ℕ → Type 0 = λ t. IfErr r (λ f. IsReported (sought a) t (handed ++ found) (Some f)) in
        subst Q (sym (one_byte u byte more)) (ended place u more handed h.1);
    answer = λ text u more handed compiled h.
        let Q : List ℕ → Type 0 = λ t. IfErr r (λ f. answer_to (sought a) text t ≡ record { ranges = handed ++ found; fault = Some f }) in
        subst Q (sym (one_byte u byte more)) (answer place text u more handed compiled h.1);
    closed = λ u more handed h.
        let Q : List ℕ → Type 0 = λ t. OnErr r (is_good_so_far t ≡ false) in subst Q (sym (one_byte u byte more)) (closed place u more handed h.1);
    reported = reported;
    again = again;
    none = none;
    memory = memory;
    same_sought = same;
  }

  -- characters without a fault
  pub takes-good : (a b : Search W G) (reach : ℕ) (piece : List ℕ) (found : List (ℕ × ℕ)) → a.fault ≡ None → b.fault ≡ None → sought b ≡ sought a →
      ((place : ℕ) (u : List ℕ) (handed : List (ℕ × ℕ)) → MayCut a reach place u handed → HasTaken b place (u ++ piece) (handed ++ found)) → TakesPart a reach piece (Ok tt) found b
  takes-good a b reach piece found none_before none same stands = λ place. record {
    stands = stands place;
    known = λ u handed h. tt;
    ended = λ u more handed h. tt;
    answer = λ text u more handed compiled h. tt;
    closed = λ u more handed h. tt;
    reported = tt;
    again = λ f h. absurd (none_or_some a.fault f none_before h);
    none = none;
    memory = tt;
    same_sought = same;
  }

  -- nothing was taken, and the search was put together again of the same parts
  pub takes-kept : (old parts new : Search W G) (reach : ℕ) → new ≡ parts → old.fault ≡ None → parts.fault ≡ None → sought parts ≡ sought old →
      ((place : ℕ) (u : List ℕ) (handed : List (ℕ × ℕ)) → HasTaken old place u handed → HasTaken parts place u handed) → TakesPart old reach [] (Ok tt) [] new
  takes-kept old parts new reach is none_before none same stands =
      subst (λ (s : Search W G). TakesPart old reach [] (Ok tt) [] s) (sym is)
      (takes-good old parts reach [] [] none_before none same
      (λ place u handed h.
      subst (λ t. HasTaken parts place t (handed ++ [])) (sym (append-nil u))
      (subst (λ (t : List (ℕ × ℕ)). HasTaken parts place u t) (sym (append-nil handed)) (stands place u handed h.1))))

  -- ---- a whole piece

  -- where none was cut early, or where enough starters follow the place
  searched-from : (search : Search W G) (place : ℕ) (u : List ℕ) (handed : List (ℕ × ℕ)) → (h : HasTaken search place u handed) →
      search.finder.value.window.points ≡ left_points (sought search).table (final_points (chars (whole u))) → HasSearched search u handed
  searched-from search place u handed h left = record {
    cut_stands = h.cut_stands;
    found = h.found;
    open_bytes = h.open_bytes;
    no_fault = h.no_fault;
    some_key = h.some_key;
    left = left;
  }

  pub taken-from : (search : Search W G) (place : ℕ) (u : List ℕ) (handed : List (ℕ × ℕ)) → HasSearched search u handed → HasTaken search place u handed
  taken-from search place u handed h = record {
    cut_stands = h.cut_stands;
    found = h.found;
    open_bytes = h.open_bytes;
    no_fault = h.no_fault;
    some_key = h.some_key;
    left = inl h.left;
  }

  made_good : DecompositionsAreShort → EarlyCutsAreMadeGood → (b : Search W G) (reach : ℕ) (u piece : List ℕ) (handed : List (ℕ × ℕ)) → LeavesEnough (sought b) reach piece →
      ((place : ℕ) → (0 < reach → length u + reach ≤ place) → HasTaken b place (u ++ piece) handed) → HasSearched b (u ++ piece) handed
  made_good short law b zero u piece handed enough taken =
      let h = taken 0 (λ some. absurd (omega (arith, some))) in
      searched-from b 0 (u ++ piece) handed h (made-good_none (sought b).table (chars (whole (u ++ piece))) b.finder.value.window.points h.left)
  made_good short law b (suc reach) u piece handed enough taken =
      let place = length u + suc reach in
      let h = taken place (λ some. omega arith) in
      let follow = enough u h.open_bytes (omega arith) in
      searched-from b place (u ++ piece) handed h (made-good short law (sought b).table place (chars (whole (u ++ piece))) b.finder.value.window.points (omega (arith, follow)) h.left)

  -- what was taken of a whole piece, of which enough was left to the steps, is what steps alone make of it
  pub feeds-of : StateLaws → DecompositionsAreShort → EarlyCutsAreMadeGood → (a b : Search W G) (reach : ℕ) (piece : List ℕ) (r : Result (Unit {0}) TextFault) (found : List (ℕ × ℕ)) →
      LeavesEnough (sought a) reach piece → TakesPart a reach piece r found b → Feeds a piece r found b
  feeds-of laws short law a b reach piece r found enough t = record {
    stands = stands;
    known = λ u handed h.
        by_answer r (λ answer. IsReported (sought a) (u ++ piece) (handed ++ found) (fault_of answer))
        (on_ok-map r _ _ (λ now. reported u handed now) (stands u handed h))
        (over u handed h);
    ended = λ u more handed h. (t (length u + reach)).ended u more handed (begins u handed h);
    answer = λ text u more handed compiled h. (t (length u + reach)).answer text u more handed compiled (begins u handed h);
    closed = λ u more handed h. (t (length u + reach)).closed u more handed (begins u handed h);
    reported = (t 0).reported;
    again = (t 0).again;
    none = (t 0).none;
    memory = (t 0).memory;
    same_sought = (t 0).same_sought;
  }
    where
      begins : (u : List ℕ) (handed : List (ℕ × ℕ)) → HasSearched a u handed → MayCut a reach (length u + reach) u handed
      begins u handed h = (λ some. omega arith, taken-from a (length u + reach) u handed h)

      over : (u : List ℕ) (handed : List (ℕ × ℕ)) → HasSearched a u handed → IfErr r (λ f. IsReported (sought a) (u ++ piece) (handed ++ found) (Some f))
      over u handed h =
          subst (λ bytes. IfErr r (λ f. IsReported (sought a) bytes (handed ++ found) (Some f))) (append-nil (u ++ piece)) ((t (length u + reach)).ended u [] handed (begins u handed h))

      stands : (u : List ℕ) (handed : List (ℕ × ℕ)) → HasSearched a u handed → OnOk r (HasSearched b (u ++ piece) (handed ++ found))
      stands u handed h =
          let there : LeavesEnough (sought b) reach piece = subst (λ s. LeavesEnough s reach piece) (sym (t 0).same_sought) enough in
          on_ok-all r (λ place. (0 < reach → length u + reach ≤ place)) (λ place. HasTaken b place (u ++ piece) (handed ++ found)) (HasSearched b (u ++ piece) (handed ++ found))
          (made_good short law b reach u piece (handed ++ found) there)
          (λ place far. (t place).stands u handed (far, taken-from a place u handed h))

      reported : (u : List ℕ) (handed : List (ℕ × ℕ)) → HasSearched b (u ++ piece) (handed ++ found) → IsReported (sought a) (u ++ piece) (handed ++ found) None
      reported u handed now =
          subst (λ s. IsReported s (u ++ piece) (handed ++ found) None) (t 0).same_sought
          (reported-known laws (sought b) b.cut b.finder.value b.fault (u ++ piece) (handed ++ found) now refl, fault-known laws (sought b) b.cut b.finder.value b.fault (u ++ piece) (handed ++ found) now refl)

  -- where none is cut early
  pub feeds-steps : StateLaws → DecompositionsAreShort → EarlyCutsAreMadeGood → (a b : Search W G) (piece : List ℕ) (r : Result (Unit {0}) TextFault) (found : List (ℕ × ℕ)) →
      TakesPart a 0 piece r found b → Feeds a piece r found b
  feeds-steps laws short law a b piece r found t = feeds-of laws short law a b 0 piece r found (λ u good some. absurd (omega (arith, some))) t

  -- a fault that was reported before is reported again, whatever the piece is
  pub feeds-reported : (search : Search W G) (piece : List ℕ) (f : TextFault) → HasReported search f →
      ((u : List ℕ) (handed : List (ℕ × ℕ)) → HasSearched search u handed → ⊥) → ((g : TextFault) → HasReported search g → Some f ≡ Some g) →
      Feeds search piece (Err f) [] search
  feeds-reported search piece f reported not_open again = record {
    stands = λ u handed h. tt;
    known = λ u handed h. absurd (not_open u handed h);
    ended = λ u more handed h. absurd (not_open u handed h);
    answer = λ text u more handed compiled h. absurd (not_open u handed h);
    closed = λ u more handed h. absurd (not_open u handed h);
    reported = reported;
    again = λ g h. (err_of f g (again g h), refl);
    none = tt;
    memory = λ kind. reported;
    same_sought = refl;
  }
