use Rattle.std.proofs.Common.{◌≡◌, refl}
use Rattle.colfind_run.specs.declared.faults.Stop.TheVariants.{Words}
use Rattle.colfind_run.specs.declared.words.SettingsFault.TheVariants.{Usage, Memory}
use Rattle.colfind_run.proofs.process.answer.Goals as goal

pub returns-in_default-clause-first : goal.returns-in_default-clause-first
returns-in_default-clause-first g c = λ _.
    (Words Memory, c.report.ensures.line, (λ usage. absurd (let clash : Memory ≡ Usage = usage in cc)), (λ _. (refl, refl)))
