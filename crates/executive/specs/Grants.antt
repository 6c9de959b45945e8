-- A grant by its four numbers.
use Rattle.history.specs.declared.calls.Ticket.{Ticket}
use Rattle.executive.specs.declared.grant.Grant.{Grant}

abbrev pub ticket_of : Grant → Ticket
ticket_of g = record { mission = g.mission; tick = g.tick; action = g.action; reason = g.reason }
