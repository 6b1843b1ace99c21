use Rattle.std.specs.Str.{chars}
use Rattle.std.proofs.Common.{◌≡◌, ◌∙◌, ℕ, true, false, List, [], ◌++◌, take, refl, sym, ap, subst, arith, append_assoc}
use Rattle.std.proofs.lemmas.List.{append-nil}
use Rattle.std.proofs.lemmas.Str.{IsUtf8-nil, chars-nil}
use Rattle.nfd_points.specs.Points.{byte_len, points_of, begins_with_starter}
use Rattle.collation_table.specs.Table.{TableMap}
use Rattle.collation_pattern.specs.Compiled.{Compiled}
use Rattle.collation_finder.specs.declared.finder.Finder.{Finder}
use Rattle.collation_finder.specs.declared.letter_loop.Front.{Front}
use Rattle.collation_finder.specs.Early.{IsCutUpTo}
use Rattle.collation_finder.specs.Finding.{FinderStandsFor}
use Rattle.collation_finder.specs.Taking.{StandsPaused, TakesText}
use Rattle.collation_walk.proofs.Folds.{folds-append}
use Rattle.collation_finder.proofs.finder.Finder.take_to_reach.Given as given
use Rattle.collation_finder.proofs.finder.Finder.take_to_reach.Goals.{After-go_on}
use Rattle.collation_finder.proofs.finder.Finder.take_to_reach.Goals as goal

no_more : (taken : List ℕ) → taken ≡ taken ++ chars []
no_more taken = sym (ap (λ (cs : List ℕ). taken ++ cs) chars-nil ∙ append-nil taken)

-- none were taken
took_none : (table : TableMap) (pattern : Compiled) (finder : Finder) (front : Front) → finder.window.has_ended ≡ false → TakesText table pattern finder finder front 0 []
took_none table pattern finder front is_open = record {
  stands = λ taken handed h at.
      subst (λ cs. FinderStandsFor table pattern finder cs (handed ++ [])) (no_more taken)
      (subst (λ (t : List (ℕ × ℕ)). FinderStandsFor table pattern finder taken t) (sym (append-nil handed)) h);
  left = λ place taken handed h at. subst (λ cs. IsCutUpTo table place cs finder.window.points) (no_more taken) h.1.cut;
  within = omega arith;
  text = IsUtf8-nil;
  goes_on = record { open_text = is_open; setup = record { longest = refl; pattern_len = refl; select = refl } };
}

pub returns-in_default-first_character-clause-taken : goal.returns-in_default-first_character-clause-taken
returns-in_default-first_character-clause-taken g c =
    ([], refl, took_none (g.W.Weights.table c.args.query.now.table.now) c.args.query.now.pattern.now c.args.self.now c.args.front c.requires.ready.open_text)

pub returns-then-not-begins_unit-clause-taken : goal.returns-then-not-begins_unit-clause-taken
returns-then-not-begins_unit-clause-taken g c =
    ([], refl, took_none (g.W.Weights.table c.args.query.now.table.now) c.args.query.now.pattern.now c.args.self.now c.args.front c.requires.ready.open_text)

pub returns-then-not-can_begin-clause-taken : goal.returns-then-not-can_begin-clause-taken
returns-then-not-can_begin-clause-taken g c =
    ([], refl, took_none (g.W.Weights.table c.args.query.now.table.now) c.args.query.now.pattern.now c.args.self.now c.args.front c.requires.ready.open_text)

pub go_on-requires-clause-ready : goal.go_on-requires-clause-ready
go_on-requires-clause-ready g c =
    let on = c.pause.ensures.goes_on in
    record {
      open_text = on.open_text;
      made = record {
        longest = on.setup.longest ∙ c.requires.ready.made.longest;
        pattern_len = on.setup.pattern_len ∙ c.requires.ready.made.pattern_len;
      };
    }

pub go_on-requires-clause-first : goal.go_on-requires-clause-first
go_on-requires-clause-first g c = record {
  front = c.in-Some-first_character.ensures.some;
  begins = (c.begins_unit.ensures c.if-not-begins_unit.false c.args.query.now.pattern.now c.args.front.offset c.in-Some-first_character.first c.letter-letter.ensures.letter).starter;
  letter = c.letter-letter.ensures.letter;
}

-- the pause before the first character
paused : (g : given.Over) (c : After-go_on g) (taken : List ℕ) (handed : List (ℕ × ℕ)) → FinderStandsFor (g.W.Weights.table c.args.query.now.table.now) c.args.query.now.pattern.now c.args.self.now taken handed →
    c.args.front.offset ≡ byte_len taken →
    StandsPaused (g.W.Weights.table c.args.query.now.table.now) c.args.query.now.pattern.now c.pause.new.self.reorder c.pause.new.self.window c.pause.new.self.matcher c.in-Some-first_character.first taken (handed ++ c.pause.ensures.paused.0)
paused g c taken handed h place =
    let first = c.begins_unit.ensures c.if-not-begins_unit.false c.args.query.now.pattern.now c.args.front.offset c.in-Some-first_character.first c.letter-letter.ensures.letter in
    record {
      paused = record { paused = c.pause.ensures.paused.2 taken handed h; ends = first.ends taken handed h place };
      starter = subst (λ k. begins_with_starter (points_of k c.in-Some-first_character.first) ≡ true) place first.starter;
    }

pub returns-clause-taken : goal.returns-clause-taken
returns-clause-taken g c =
    let here = (goal.at.returns-clause-taken g c).After-go_on in
    let table = g.W.Weights.table c.args.query.now.table.now in
    let pattern = c.args.query.now.pattern.now in
    let held = c.pause.ensures.paused in
    let on = c.go_on.ensures.taken in
    let more = on.2 in
    let before = c.pause.ensures.goes_on.setup in
    let now = c.go_on.new.self in (
      held.0 ++ on.0,
      folds-append (λ f range t. goal.F-step g f range.0 range.1 tt t) c.args.sink.now held.0 on.0 c.pause.new.sink c.go_on.new.sink held.1 on.1,
      record {
        stands = λ taken handed h place.
            subst (λ (t : List (ℕ × ℕ)). FinderStandsFor table pattern now (taken ++ chars (take c.go_on.result c.args.front.piece.now)) t) (append_assoc handed held.0 on.0)
            (more.stands taken (handed ++ held.0) (paused g here taken handed h place) place);
        left = λ at taken handed h place. more.left at taken (handed ++ held.0) (h.0, paused g here taken handed h.1.stands place) place;
        within = more.within;
        text = more.text;
        goes_on = record {
          open_text = more.goes_on.open_text;
          setup = record {
            longest = more.goes_on.setup.longest ∙ before.longest;
            pattern_len = more.goes_on.setup.pattern_len ∙ before.pattern_len;
            select = more.goes_on.setup.select ∙ before.select;
          };
        };
      },
    )
