-- The forms of the lines so far and of those that are left, with the table and the fault that they make; the fault of two files.
use Rattle.std.proofs.Common.{◌≡◌, ℕ, ◌+◌, ◌<◌, List, [], ◌∷◌, ◌++◌, length, take, drop, get_or, map, Option, Some, None, Ok, Err, Result, MatchResult, IfOk, IfErr, OnOk, refl, sym, ap, ◌∙◌, subst, inl, inr, arith, length-drop, append_assoc, option_map}
use Rattle.std.proofs.lemmas.List.{drop_more, take_more}
use Rattle.std.specs.List.{filter_map, cons_option, range_with_len}
use Rattle.collation_table.specs.declared.faults.TableFault.{TableFault}
use Rattle.collation_table.specs.Table.{TableMap, row_of, longest_mapped, most_elements}
use Rattle.std.specs.Option.{option_or}
use Rattle.std.specs.Str.Lines.{lines}
use Rattle.collation_table.specs.Spelling.{Form, line_form}
use Rattle.collation_table.specs.declared.ranges.ImplicitRange.{ImplicitRange}
use Rattle.collation_table.specs.declared.reader.TableFile.TheVariants.{Tailor}
use Rattle.collation_table.specs.Overlay.{overlay}
use Rattle.collation_table.specs.Reading.{reported}
use Rattle.collation_table.specs.WellFormed.{IsWellFormed, map_fault}
use Rattle.collation_table.specs.Faults.{forms_of, IsFaultOrAllocationRefused, row_in, range_in, map_of, map_after, with_line, line_kind, fault_at_line, fault_of_line, first_some, first_line_fault, in_tailor, tailored_map, tailored_fault, SpellsTailored, FileAloneLaws}
use Rattle.collation_table.proofs.OverlayLemmas.{overlay-base}

-- after n lines of a file, the others are left, the table is that of the n lines and of the ranges of an earlier file, and none of the
-- lines is at fault
pub record AfterLines (earlier : List ImplicitRange) (forms left : List (Option Form)) (n : ℕ) (T : TableMap) : Type 0 where
  pub left_are : drop n forms ≡ left
  pub table_is : T ≡ map_after earlier (take n forms)
  pub fault_is : first_some (fault_of_line earlier forms) (range_with_len n (length left)) ≡ first_line_fault earlier forms

-- what one more line leaves
cons_option-append : {Y : Type 0} (o : Option Y) (ys zs : List Y) → cons_option o (ys ++ zs) ≡ cons_option o ys ++ zs
cons_option-append None ys zs = refl
cons_option-append (Some y) ys zs = refl

filter_map-push : {X Y : Type 0} (h : X → Option Y) (xs : List X) (x : X) → filter_map h (xs ++ x ∷ []) ≡ filter_map h xs ++ cons_option (h x) []
filter_map-push h [] x = refl
filter_map-push h (y ∷ ys) x = ap (cons_option (h y)) (filter_map-push h ys x) ∙ cons_option-append (h y) (filter_map h ys) (cons_option (h x) [])

map_after-push : (earlier : List ImplicitRange) (forms : List (Option Form)) (form : Option Form) → map_after earlier (forms ++ form ∷ []) ≡ with_line (map_after earlier forms) form
map_after-push earlier forms form = λ i. record {
  rows = filter_map-push row_in forms form i;
  ranges = (ap (λ l. earlier ++ l) (filter_map-push range_in forms form) ∙ sym (append_assoc earlier (filter_map range_in forms) (cons_option (range_in form) []))) i;
}

-- the line at n, of those left
record IsLineAt (forms : List (Option Form)) (n : ℕ) (form : Option Form) (more : List (Option Form)) : Type 0 where
  within : n < length forms
  is : get_or forms n None ≡ form
  following : drop (n + 1) forms ≡ more

next_of : (forms more : List (Option Form)) (n : ℕ) (form : Option Form) → drop n forms ≡ form ∷ more → IsLineAt forms n form more
next_of forms more n form e =
    let within : n < length forms = omega (arith, length-drop n forms, ap length e) in
    let at = sym (drop_more forms n None within) ∙ e in
    record { within = within; is = cc; following = cc }

fault_here : (earlier : List ImplicitRange) (forms more : List (Option Form)) (n : ℕ) (form : Option Form) (T : TableMap) → T ≡ map_after earlier (take n forms) → drop n forms ≡ form ∷ more
    → fault_of_line earlier forms n ≡ fault_at_line (n + 1) (line_kind (length earlier) T form)
fault_here earlier forms more n form T table e =
    ap (λ f. fault_at_line (n + 1) (line_kind (length earlier) (map_after earlier (take n forms)) f)) (next_of forms more n form e).is
    ∙ ap (λ U. fault_at_line (n + 1) (line_kind (length earlier) U form)) (sym table)

-- the line at fault is the first one
first_fault : (earlier : List ImplicitRange) (forms more : List (Option Form)) (n : ℕ) (form : Option Form) (T : TableMap) (fault : TableFault) → AfterLines earlier forms (form ∷ more) n T
    → fault_at_line (n + 1) (line_kind (length earlier) T form) ≡ Some fault → first_line_fault earlier forms ≡ Some fault
first_fault earlier forms more n form T fault so e =
    sym so.fault_is ∙ ap (λ o. option_or o (first_some (fault_of_line earlier forms) (range_with_len (n + 1) (length more)))) (fault_here earlier forms more n form T so.table_is so.left_are ∙ e)

-- a line that is right leaves the next ones
pub AfterLines-more : (earlier : List ImplicitRange) (forms more : List (Option Form)) (n : ℕ) (form : Option Form) (T : TableMap) → AfterLines earlier forms (form ∷ more) n T
    → line_kind (length earlier) T form ≡ None → AfterLines earlier forms more (n + 1) (with_line T form)
AfterLines-more earlier forms more n form T so e =
    let next = next_of forms more n form so.left_are in
    record {
      left_are = next.following;
      table_is = ap (λ U. with_line U form) so.table_is ∙ sym (map_after-push earlier (take n forms) form)
          ∙ ap (map_after earlier) (sym (take_more forms n None next.within ∙ ap (λ f. take n forms ++ f ∷ []) next.is));
      fault_is = sym (ap (λ o. option_or o (first_some (fault_of_line earlier forms) (range_with_len (n + 1) (length more))))
          (fault_here earlier forms more n form T so.table_is so.left_are ∙ ap (fault_at_line (n + 1)) e)) ∙ so.fault_is;
    }

-- the same, where the next line was cut off what is left of a file
next_line : (earlier : List ImplicitRange) (bytes rest text following : List ℕ) (n : ℕ) (T : TableMap) → lines rest ≡ text ∷ lines following → AfterLines earlier (forms_of bytes) (forms_of rest) n T
    → AfterLines earlier (forms_of bytes) (line_form text ∷ forms_of following) n T
next_line earlier bytes rest text following n T e so = subst (λ left. AfterLines earlier (forms_of bytes) left n T) (ap (map line_form) e) so

pub AfterLines-line : (earlier : List ImplicitRange) (count : ℕ) (bytes rest text following : List ℕ) (n : ℕ) (T U : TableMap) → count ≡ length earlier → lines rest ≡ text ∷ lines following
    → AfterLines earlier (forms_of bytes) (forms_of rest) n T → line_kind count T (line_form text) ≡ None → U ≡ with_line T (line_form text) → AfterLines earlier (forms_of bytes) (forms_of following) (n + 1) U
AfterLines-line earlier count bytes rest text following n T U many e so right is =
    subst (λ V. AfterLines earlier (forms_of bytes) (forms_of following) (n + 1) V) (sym is)
    (AfterLines-more earlier (forms_of bytes) (forms_of following) n (line_form text) T (next_line earlier bytes rest text following n T e so) (sym (ap (λ k. line_kind k T (line_form text)) many) ∙ right))

-- ---- two files

-- what is known once the lines of the first file were read: none is at fault, and its ranges are those before the tailor's
record BaseIsRead (base : List ℕ) (B R : TableMap) : Type 0 where
  right : first_line_fault [] (forms_of base) ≡ None
  rows : B ≡ map_of (forms_of base)
  ranges : R.ranges ≡ (map_of (forms_of base)).ranges

BaseIsRead-from : (base : List ℕ) (none B R : TableMap) → none ≡ record { rows = []; ranges = [] } → first_line_fault none.ranges (forms_of base) ≡ None → B ≡ map_after none.ranges (forms_of base) → R ≡ record B { rows = [] }
    → BaseIsRead base B R
BaseIsRead-from base none B R start right is ranges =
    let whole : B ≡ map_of (forms_of base) = is ∙ ap (λ (T : TableMap). map_after T.ranges (forms_of base)) start in
    record {
      right = ap (λ (T : TableMap). first_line_fault T.ranges (forms_of base)) (sym start) ∙ right;
      rows = whole;
      ranges = ap (λ (T : TableMap). T.ranges) (ranges ∙ ap (λ (T : TableMap). record T { rows = [] }) whole);
    }

-- where the first file has no line at fault, one of the tailor's comes
tailor_by : (base tailor : List ℕ) (fault : TableFault) (o : Option TableFault) → first_line_fault [] (forms_of base) ≡ None → first_line_fault (map_of (forms_of base)).ranges (forms_of tailor) ≡ o
    → option_map in_tailor o ≡ Some fault → IsFaultOrAllocationRefused (tailored_fault base tailor) fault
tailor_by base tailor fault None right is none = cc
tailor_by base tailor fault (Some found) right is reported =
    inl ((λ i. option_or (right i) (option_or (option_map in_tailor (is i)) (fault_at_line 0 (map_fault (tailored_map base tailor))))) ∙ reported)

pub tailor_at_fault : (base tailor : List ℕ) (none B R : TableMap) (count : ℕ) (fault : TableFault) → IsFaultOrAllocationRefused (option_map (reported (Tailor count)) (first_line_fault R.ranges (forms_of tailor))) fault
    → R ≡ record B { rows = [] } → B ≡ map_after none.ranges (forms_of base) → first_line_fault none.ranges (forms_of base) ≡ None → none ≡ record { rows = []; ranges = [] }
    → IsFaultOrAllocationRefused (tailored_fault base tailor) fault
tailor_at_fault base tailor none B R count fault (inl there) ranges is right start =
    let read = BaseIsRead-from base none B R start right is ranges in
    tailor_by base tailor fault (first_line_fault R.ranges (forms_of tailor)) read.right (ap (λ e. first_line_fault e (forms_of tailor)) (sym read.ranges)) there
tailor_at_fault base tailor none B R count fault (inr memory) ranges is right start = inr memory

-- where no line of either file is at fault, the rows are those of the overlay, and its fault is what is left
pub record AreBothRead (base tailor : List ℕ) (T : TableMap) : Type 0 where
  pub rows : T ≡ tailored_map base tailor
  pub fault : tailored_fault base tailor ≡ fault_at_line 0 (map_fault T)

pub AreBothRead-from : (base tailor : List ℕ) (none B D R S T : TableMap) → none ≡ record { rows = []; ranges = [] } → first_line_fault none.ranges (forms_of base) ≡ None → B ≡ map_after none.ranges (forms_of base)
    → D ≡ record B { ranges = [] } → R ≡ record B { rows = [] } → first_line_fault R.ranges (forms_of tailor) ≡ None → S ≡ map_after R.ranges (forms_of tailor)
    → T ≡ record { rows = (overlay D S).rows; ranges = S.ranges } → AreBothRead base tailor T
AreBothRead-from base tailor none B D R S T start right is alone ranges rest tailor_is both =
    let read = BaseIsRead-from base none B R start right is ranges in
    let rows : T ≡ tailored_map base tailor =
    both ∙ (λ i. record { rows = (overlay ((alone ∙ ap (λ (U : TableMap). record U { ranges = [] }) read.rows) i) (tailor_is i)).rows; ranges = (tailor_is i).ranges })
    ∙ ap (λ e. record { rows = (tailored_map base tailor).rows; ranges = e ++ (map_of (forms_of tailor)).ranges }) read.ranges in
    record {
      rows = rows;
      fault = (λ i. option_or (read.right i) (option_or (option_map in_tailor ((ap (λ e. first_line_fault e (forms_of tailor)) (sym read.ranges) ∙ rest) i)) (fault_at_line 0 (map_fault (tailored_map base tailor)))))
          ∙ ap (λ U. fault_at_line 0 (map_fault U)) (sym rows);
    }

-- what is reported of two files whose rows are judged as a whole, by the table or by the fault
pub record IsResultOfFiles {X : Type 0} (map_in : X → TableMap) (base tailor : List ℕ) (r : Result X TableFault) : Type 0 where
  pub accepted : OnOk r (tailored_fault base tailor ≡ None)
  pub spelled : IfOk r (λ table. SpellsTailored base tailor (map_in table))
  pub exact : IfOk r (λ table. map_in table ≡ tailored_map base tailor)
  pub well_formed : IfOk r (λ table. IsWellFormed (map_in table))
  pub fault : IfErr r (IsFaultOrAllocationRefused (tailored_fault base tailor))

pub IsResultOfFiles-from : {X : Type 0} (map_in : X → TableMap) (base tailor : List ℕ) (T : TableMap) (r : Result X TableFault) → ((table : X) → IsWellFormed (map_in table)) → AreBothRead base tailor T
    → MatchResult r (λ table. (map_fault T ≡ None) × (map_in table ≡ T)) (λ fault. fault_at_line 0 (map_fault T) ≡ Some fault) → IsResultOfFiles map_in base tailor r
IsResultOfFiles-from map_in base tailor T (Ok table) well_formed both sealed =
    let is : map_in table ≡ tailored_map base tailor = sealed.1 ∙ both.rows in
    record {
      accepted = both.fault ∙ ap (fault_at_line 0) sealed.0;
      spelled = record {
        rows = λ string. ap (λ U. row_of U string) is;
        ranges = ap (λ (U : TableMap). U.ranges) is;
        longest = ap longest_mapped is;
        largest = ap most_elements is;
      };
      exact = is;
      well_formed = well_formed table;
      fault = tt;
    }
IsResultOfFiles-from map_in base tailor T (Err fault) well_formed both sealed = record {
  accepted = tt;
  spelled = tt;
  exact = tt;
  well_formed = tt;
  fault = inl (both.fault ∙ sealed);
}

-- ---- a file alone

pub file_alone_laws-hold : FileAloneLaws
file_alone_laws-hold = record {
  map = λ bytes. overlay-base (map_of (forms_of bytes));
  fault = λ bytes. ap (λ T. option_or (first_line_fault [] (forms_of bytes)) (fault_at_line 0 (map_fault T))) (overlay-base (map_of (forms_of bytes)));
}

-- where no line of a file alone is at fault, the rows are those that it spells, and its fault is what is left
pub AreBothRead-alone : (bytes : List ℕ) (none T : TableMap) → none ≡ record { rows = []; ranges = [] } → first_line_fault none.ranges (forms_of bytes) ≡ None → T ≡ map_after none.ranges (forms_of bytes) → AreBothRead bytes [] T
AreBothRead-alone bytes none T start right is =
    let rows : T ≡ map_of (forms_of bytes) = is ∙ ap (λ (U : TableMap). map_after U.ranges (forms_of bytes)) start in
    let lines : first_line_fault [] (forms_of bytes) ≡ None = ap (λ (U : TableMap). first_line_fault U.ranges (forms_of bytes)) (sym start) ∙ right in
    record {
      rows = rows ∙ sym (file_alone_laws-hold.map bytes);
      fault = file_alone_laws-hold.fault bytes ∙ (λ i. option_or (lines i) (fault_at_line 0 (map_fault (sym rows i))));
    }
