use Rattle.event_list.proofs.list.WaitList.listen.Given as goal

-- the ledger of the blank
abbrev pub ghosts-listen_from : goal.ghosts-listen_from
ghosts-listen_from g a = record { name = a.blank.name; parts = a.blank.parts }
