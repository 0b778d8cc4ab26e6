use Rattle.mps_session.proofs.Answering.{answered}
use Rattle.mps_session.proofs.reading.answer.Goals as goal

pub returns-in-Number : goal.returns-in-Number
returns-in-Number c = answered c.in-Number.is c.number.ensures c.num.ensures.right

pub returns-in-Same : goal.returns-in-Same
returns-in-Same c = answered c.in-Same.is c.yes_or_no.ensures c.same.ensures.right

pub returns-in-Null : goal.returns-in-Null
returns-in-Null c = answered c.in-Null.is c.yes_or_no-in-Null.ensures c.is_null.ensures.right

pub returns-in-Head : goal.returns-in-Head
returns-in-Head c = answered c.in-Head.is c.head-in-Head.ensures c.head.ensures.right

pub returns-in-Address : goal.returns-in-Address
returns-in-Address c = answered c.in-Address.is c.address.ensures c.addr.ensures.right

pub returns-in-Load : goal.returns-in-Load
returns-in-Load c = answered c.in-Load.is c.number-in-Load.ensures c.load.ensures.right

pub returns-in-Tag : goal.returns-in-Tag
returns-in-Tag c = answered c.in-Tag.is c.tag-in-Tag.ensures c.tag.ensures.right

pub returns-in-Label : goal.returns-in-Label
returns-in-Label c = answered c.in-Label.is c.labelled.ensures c.label.ensures.right
