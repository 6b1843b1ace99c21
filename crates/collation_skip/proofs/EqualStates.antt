-- What a derived `==` says of states: that they are one.
use Rattle.std.proofs.Common.{◌≡◌, ℕ, Bool, true, false, ◌&&◌, nat_eq, Option, None, Some, refl, ap, rules}
use Rattle.std.specs.Bool.{beq}
use Rattle.std.specs.Option.{option_eq}
use Rattle.std.proofs.lemmas.Bool.{false≢true, and_parts, eqb-true}
use Rattle.collation_letters.specs.declared.letter.Letter.{Letter}
use Rattle.collation_letters.specs.declared.letter.Role.{Role}
use Rattle.collation_letters.specs.declared.symbols.Symbols.{Symbols}
use Rattle.collation_letters.specs.contracts.letter.LetterPartialEq.TheImpl.{ghosts as letter}
use Rattle.collation_letters.specs.contracts.letter.RolePartialEq.TheImpl.{ghosts as role}
use Rattle.collation_letters.specs.contracts.symbols.SymbolsPartialEq.TheImpl.{ghosts as symbols}
use Rattle.collation_skip.specs.declared.begun.Begun.{Begun}
use Rattle.collation_skip.specs.declared.state.Marks.{Marks}
use Rattle.collation_skip.specs.declared.state.State.{State}
use Rattle.collation_skip.specs.contracts.begun.BegunPartialEq.TheImpl.{ghosts as begun}
use Rattle.collation_skip.specs.contracts.state.MarksPartialEq.TheImpl.{ghosts as marks}
use Rattle.collation_skip.specs.contracts.state.StatePartialEq.TheImpl.{ghosts as state}

same-bool : (a b : Bool) → beq a b ≡ true → a ≡ b
same-bool false false h = refl
same-bool false true h = absurd (false≢true h)
same-bool true false h = absurd (false≢true h)
same-bool true true h = refl

same-role : (a b : Role) → role.eq a b ≡ true → a ≡ b
same-role a b h = search rules depth 4

same-symbols : (a b : Symbols) → symbols.eq a b ≡ true → a ≡ b
same-symbols a b h = search rules depth 4

same-begun : (a b : Begun) → begun.eq a b ≡ true → a ≡ b
same-begun a b h = search rules depth 4

-- ---- letters

letter_of : Role → Bool → Bool → ℕ → ℕ → Symbols → Letter
letter_of r c a p k s = record { role = r; is_closed = c; is_apart = a; points = p; class = k; symbols = s }

letters : (r r' : Role) (c c' a a' : Bool) (p p' k k' : ℕ) (s s' : Symbols) → r ≡ r' → c ≡ c' → a ≡ a' → p ≡ p' → k ≡ k' → s ≡ s' → letter_of r c a p k s ≡ letter_of r' c' a' p' k' s'
letters r r' c c' a a' p p' k k' s s' e1 e2 e3 e4 e5 e6 = cc

same-letter : (a b : Letter) → letter.eq a b ≡ true → a ≡ b
unfolding letter_of
same-letter a b h =
    let all : (role.eq a.role b.role && (beq a.is_closed b.is_closed && (beq a.is_apart b.is_apart && (nat_eq a.points b.points && (nat_eq a.class b.class && symbols.eq a.symbols b.symbols))))) ≡ true = h in
    let first = and_parts _ _ all in
    let second = and_parts _ _ first.1 in
    let third = and_parts _ _ second.1 in
    let fourth = and_parts _ _ third.1 in
    let fifth = and_parts _ _ fourth.1 in
    letters _ _ _ _ _ _ _ _ _ _ _ _ (same-role _ _ first.0) (same-bool _ _ second.0) (same-bool _ _ third.0) (eqb-true _ _ fourth.0) (eqb-true _ _ fifth.0) (same-symbols _ _ fifth.1)

-- ---- marks

marks_of : Letter → Letter → Letter → Marks
marks_of b m l = record { base = b; before = m; last = l }

all-marks : (b b' m m' l l' : Letter) → b ≡ b' → m ≡ m' → l ≡ l' → marks_of b m l ≡ marks_of b' m' l'
all-marks b b' m m' l l' e1 e2 e3 = cc

same-marks : (a b : Marks) → marks.eq a b ≡ true → a ≡ b
unfolding marks_of
same-marks a b h =
    let all : (letter.eq a.base b.base && (letter.eq a.before b.before && letter.eq a.last b.last)) ≡ true = h in
    let first = and_parts _ _ all in
    let second = and_parts _ _ first.1 in
    all-marks _ _ _ _ _ _ (same-letter _ _ first.0) (same-letter _ _ second.0) (same-letter _ _ second.1)

same-option : (a b : Option Marks) → option_eq marks.eq a b ≡ true → a ≡ b
same-option None None h = refl
same-option None (Some b) h = absurd (false≢true h)
same-option (Some a) None h = absurd (false≢true h)
same-option (Some a) (Some b) h = ap Some (same-marks a b h)

-- ---- states

state_of : ℕ → Letter → Option Marks → ℕ → ℕ → ℕ → Begun → State
state_of d l m c n k b = record { depth = d; letter = l; marks = m; character = c; len = n; before = k; begun = b }

states : (d d' : ℕ) (l l' : Letter) (m m' : Option Marks) (c c' n n' k k' : ℕ) (b b' : Begun) → d ≡ d' → l ≡ l' → m ≡ m' → c ≡ c' → n ≡ n' → k ≡ k' → b ≡ b' →
    state_of d l m c n k b ≡ state_of d' l' m' c' n' k' b'
states d d' l l' m m' c c' n n' k k' b b' e1 e2 e3 e4 e5 e6 e7 = cc

pub same-state : (a b : State) → state.eq a b ≡ true → a ≡ b
unfolding state_of
same-state a b h =
    let all : (nat_eq a.depth b.depth && (letter.eq a.letter b.letter && (option_eq marks.eq a.marks b.marks && (nat_eq a.character b.character && (nat_eq a.len b.len && (nat_eq a.before b.before && begun.eq a.begun b.begun)))))) ≡ true = h in
    let first = and_parts _ _ all in
    let second = and_parts _ _ first.1 in
    let third = and_parts _ _ second.1 in
    let fourth = and_parts _ _ third.1 in
    let fifth = and_parts _ _ fourth.1 in
    let sixth = and_parts _ _ fifth.1 in
    states _ _ _ _ _ _ _ _ _ _ _ _ _ _ (eqb-true _ _ first.0) (same-letter _ _ second.0) (same-option _ _ third.0) (eqb-true _ _ fourth.0) (eqb-true _ _ fifth.0) (eqb-true _ _ sixth.0) (same-begun _ _ sixth.1)
