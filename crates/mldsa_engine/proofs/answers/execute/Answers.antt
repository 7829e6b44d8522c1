use Rattle.mldsa_engine.proofs.answers.execute.Goals as goal

pub returns-in-MlDsa44-clause-executed : goal.returns-in-MlDsa44-clause-executed
returns-in-MlDsa44-clause-executed g c = rw c.in-MlDsa44.is c.run.ensures.executed

pub returns-in-MlDsa44-clause-stops : goal.returns-in-MlDsa44-clause-stops
returns-in-MlDsa44-clause-stops g c = rw c.in-MlDsa44.is c.run.ensures.stops

pub returns-in-MlDsa65-clause-executed : goal.returns-in-MlDsa65-clause-executed
returns-in-MlDsa65-clause-executed g c = rw c.in-MlDsa65.is c.run-in-MlDsa65.ensures.executed

pub returns-in-MlDsa65-clause-stops : goal.returns-in-MlDsa65-clause-stops
returns-in-MlDsa65-clause-stops g c = rw c.in-MlDsa65.is c.run-in-MlDsa65.ensures.stops

pub returns-in-MlDsa87-clause-executed : goal.returns-in-MlDsa87-clause-executed
returns-in-MlDsa87-clause-executed g c = rw c.in-MlDsa87.is c.run-in-MlDsa87.ensures.executed

pub returns-in-MlDsa87-clause-stops : goal.returns-in-MlDsa87-clause-stops
returns-in-MlDsa87-clause-stops g c = rw c.in-MlDsa87.is c.run-in-MlDsa87.ensures.stops
