use Rattle.collation_search.proofs.search.Search.resume.Goals as goal

pub returns-clause-goes_on : goal.returns-clause-goes_on
returns-clause-goes_on g c = c.resume_with.ensures.goes_on

pub returns-clause-accepted : goal.returns-clause-accepted
returns-clause-accepted g c = c.resume_with.ensures.accepted

pub returns-clause-refused : goal.returns-clause-refused
returns-clause-refused g c = c.resume_with.ensures.refused

pub returns-clause-kept : goal.returns-clause-kept
returns-clause-kept g c = c.resume_with.ensures.kept
