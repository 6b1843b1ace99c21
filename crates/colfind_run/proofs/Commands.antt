-- The command has plain options alone, so that its argument parser says what it makes of the words.
use Rattle.std.proofs.Common.{◌≡◌, Bool, true, false, refl}
use Rattle.clap.specs.Words.{is_simple, is_simple_and_free}
use Rattle.clap.specs.declared.builder.value_parser.ValueParser.{ValueParser}
use Rattle.colfind_run.specs.Command.{command}

pub is_simple-command : (s v o c : ValueParser) → is_simple (command s v o c) ≡ true
is_simple-command s v o c = refl

pub is_simple_and_free-command : (s v o c : ValueParser) → is_simple_and_free (command s v o c) ≡ true
is_simple_and_free-command s v o c = refl

pub not_true : (b : Bool) → (b ≡ true → ⊥) → b ≡ false
not_true true never = absurd (never refl)
not_true false never = refl
