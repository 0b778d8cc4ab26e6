use Rattle.mps_session.proofs.Answering.{answered}
use Rattle.mps_session.proofs.writing.answer.Goals as goal

pub returns-in-Put : goal.returns-in-Put
returns-in-Put c = answered c.in-Put.is c.done.ensures c.put.ensures.right

pub returns-in-SetNumber : goal.returns-in-SetNumber
returns-in-SetNumber c = answered c.in-SetNumber.is c.done-in-SetNumber.ensures c.set_num.ensures.right

pub returns-in-Copy : goal.returns-in-Copy
returns-in-Copy c = answered c.in-Copy.is c.done-in-Copy.ensures c.copy.ensures.right

pub returns-in-Clear : goal.returns-in-Clear
returns-in-Clear c = answered c.in-Clear.is c.done-in-Clear.ensures c.clear.ensures.right

pub returns-in-InitNumber : goal.returns-in-InitNumber
returns-in-InitNumber c = answered c.in-InitNumber.is c.done-in-InitNumber.ensures c.init_num.ensures.right

pub returns-in-InitReference : goal.returns-in-InitReference
returns-in-InitReference c = answered c.in-InitReference.is c.done-in-InitReference.ensures c.init_ref.ensures.right

pub returns-in-Store : goal.returns-in-Store
returns-in-Store c = answered c.in-Store.is c.done-in-Store.ensures c.store.ensures.right

pub returns-in-SetTag : goal.returns-in-SetTag
returns-in-SetTag c = answered c.in-SetTag.is c.done-in-SetTag.ensures c.set_tag.ensures.right
