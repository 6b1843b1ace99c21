use Rattle.std.proofs.Common.{subst}
use Rattle.colfind_c.specs.Sessions.{FeedsSession}
use Rattle.colfind_c.proofs.AllLemmas.{still_going, text_ended, text_refused, text_failed}
use Rattle.colfind_c.proofs.owned.Session.search_text.Goals as goal

pub end_text-requires : goal.end_text-requires
end_text-requires c = record { «open» = still_going c.args.self.now c.args.text.now c.requires.begun c.feed.new.self c.in-Good.ensures.fed }

pub returns-in-Good : goal.returns-in-Good
returns-in-Good c = record { searched = text_ended c.args.self.now c.args.text.now c.requires.begun c.end_text.result c.feed.new.self c.end_text.new.self c.in-Good.ensures.fed c.end_text.ensures.ended }

pub returns-in-Partly : goal.returns-in-Partly
returns-in-Partly c = record { searched = text_refused c.args.self.now c.args.text.now c.requires.begun c.in-Partly.field-0 c.feed.new.self c.in-Partly.ensures.fed }

pub returns-in_default : goal.returns-in_default
returns-in_default c = record { searched = text_failed c.args.self.now c.args.text.now c.requires.begun c.feed.result c.feed.new.self c.feed.ensures.fed c.in_default.not-Good c.in_default.not-Partly }
