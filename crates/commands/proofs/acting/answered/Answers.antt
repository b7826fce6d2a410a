use Rattle.std.proofs.Common.{Err, rules}
use Rattle.state.specs.Prelude.{deed_of, reply_of, Shows}
use Rattle.kinds.proofs.Comes.{goes_shows}
use Rattle.output.specs.LogFile as log_file
use Rattle.processes.specs.Close as close
use Rattle.processes.specs.Wait as wait
use Rattle.processes.specs.Sleep as sleep
use Rattle.processes.specs.Socket as socket
use Rattle.processes.specs.Spawn as spawn
use Rattle.output.specs.Send as send
use Rattle.output.specs.Channel as channel
use Rattle.commands.proofs.Failed.{failed_comes}
use Rattle.commands.specs.View.{next_of}
use Rattle.kinds.specs.Answers.{Comes}
use Rattle.commands.proofs.acting.answered.Goals as goal

pub returns-in_ok-answered-in-Write-clause-shows :
    goal.returns-in_ok-answered-in-Write-clause-shows
returns-in_ok-answered-in-Write-clause-shows g c = λ s fits.
    let shown : Shows channel.next_of c.in_ok-answered-in-Write.field-0 c.args.state.now
    (channel.next_of c.in-Write.own (deed_of c.args.act) s (reply_of c.args.answer)) =
    goes_shows channel.next_of c.args.state.now
    (channel.follows c.in-Write.own (deed_of c.args.act) s (reply_of c.args.answer)) s
    c.in_ok-answered-in-Write.field-0 (c.in_ok-answered-in-Write.ensures s fits) in
    search rules

pub returns-in_ok-answered-in-Spawn-clause-shows :
    goal.returns-in_ok-answered-in-Spawn-clause-shows
returns-in_ok-answered-in-Spawn-clause-shows g c = λ s fits.
    let shown : Shows spawn.next_of c.in_ok-answered-in-Spawn.field-0 c.answered-in-Spawn.new.state
    (spawn.next_of c.in-Spawn.own (deed_of c.args.act) s (reply_of c.args.answer)) =
    goes_shows spawn.next_of c.answered-in-Spawn.new.state
    (spawn.follows c.in-Spawn.own (deed_of c.args.act) s (reply_of c.args.answer)) s
    c.in_ok-answered-in-Spawn.field-0 (c.in_ok-answered-in-Spawn.ensures.shows s fits) in
    search rules

pub returns-in_ok-answered-in-Send-clause-shows :
    goal.returns-in_ok-answered-in-Send-clause-shows
returns-in_ok-answered-in-Send-clause-shows g c = λ s fits.
    let shown : Shows send.next_of c.in_ok-answered-in-Send.field-0 c.args.state.now
    (send.next_of c.in-Send.own (deed_of c.args.act) s (reply_of c.args.answer)) =
    goes_shows send.next_of c.args.state.now
    (send.follows c.in-Send.own (reply_of c.args.answer)) s
    c.in_ok-answered-in-Send.field-0 (c.in_ok-answered-in-Send.ensures s fits) in
    search rules

pub returns-in_ok-answered-in-Sleep-clause-shows :
    goal.returns-in_ok-answered-in-Sleep-clause-shows
returns-in_ok-answered-in-Sleep-clause-shows g c = λ s fits.
    let shown : Shows sleep.next_of c.in_ok-answered-in-Sleep.field-0 c.args.state.now
    (sleep.next_of c.in-Sleep.field-0 (deed_of c.args.act) s (reply_of c.args.answer)) =
    goes_shows sleep.next_of c.args.state.now
    sleep.follows s
    c.in_ok-answered-in-Sleep.field-0 (c.in_ok-answered-in-Sleep.ensures s fits) in
    search rules

pub returns-in_ok-answered-in-Socket-clause-shows :
    goal.returns-in_ok-answered-in-Socket-clause-shows
returns-in_ok-answered-in-Socket-clause-shows g c = λ s fits.
    let shown : Shows socket.next_of c.in_ok-answered-in-Socket.field-0 c.answered-in-Socket.new.state
    (socket.next_of c.in-Socket.field-0 (deed_of c.args.act) s (reply_of c.args.answer)) =
    goes_shows socket.next_of c.answered-in-Socket.new.state
    (socket.follows (deed_of c.args.act) s (reply_of c.args.answer)) s
    c.in_ok-answered-in-Socket.field-0 (c.in_ok-answered-in-Socket.ensures.shows s fits) in
    search rules

pub returns-in_ok-answered-in-Close-clause-shows :
    goal.returns-in_ok-answered-in-Close-clause-shows
returns-in_ok-answered-in-Close-clause-shows g c = λ s fits.
    let shown : Shows close.next_of c.in_ok-answered-in-Close.field-0 c.answered-in-Close.new.state
    (close.next_of c.in-Close.own (deed_of c.args.act) s (reply_of c.args.answer)) =
    goes_shows close.next_of c.answered-in-Close.new.state
    (close.follows c.in-Close.own) s
    c.in_ok-answered-in-Close.field-0 (c.in_ok-answered-in-Close.ensures.shows s fits) in
    search rules

pub returns-in_ok-answered-in-Wait-clause-shows :
    goal.returns-in_ok-answered-in-Wait-clause-shows
returns-in_ok-answered-in-Wait-clause-shows g c = λ s fits.
    let shown : Shows wait.next_of c.in_ok-answered-in-Wait.field-0 c.answered-in-Wait.new.state
    (wait.next_of c.in-Wait.own (deed_of c.args.act) s (reply_of c.args.answer)) =
    goes_shows wait.next_of c.answered-in-Wait.new.state
    (wait.follows c.in-Wait.own (reply_of c.args.answer)) s
    c.in_ok-answered-in-Wait.field-0 (c.in_ok-answered-in-Wait.ensures.shows s fits) in
    search rules

pub returns-in_ok-answered-in-LogFile-clause-shows :
    goal.returns-in_ok-answered-in-LogFile-clause-shows
returns-in_ok-answered-in-LogFile-clause-shows g c = λ s fits.
    let shown : Shows log_file.next_of c.in_ok-answered-in-LogFile.field-0 c.answered-in-LogFile.new.state
    (log_file.next_of c.in-LogFile.own (deed_of c.args.act) s (reply_of c.args.answer)) =
    goes_shows log_file.next_of c.answered-in-LogFile.new.state
    (log_file.follows c.in-LogFile.own (deed_of c.args.act) (reply_of c.args.answer)) s
    c.in_ok-answered-in-LogFile.field-0 (c.in_ok-answered-in-LogFile.ensures.shows s fits) in
    search rules

pub returns-in_err-answered-in-Spawn-clause-shows :
    goal.returns-in_err-answered-in-Spawn-clause-shows
returns-in_err-answered-in-Spawn-clause-shows g c = λ s fits.
    let why = c.in_err-answered-in-Spawn.field-0.0 in
    let failed : Comes (next_of {A = g.row.A.Denot})
    (spawn.next_of c.in-Spawn.own (deed_of c.args.act) s (reply_of c.args.answer)) (Err why)
    c.answered-in-Spawn.new.state =
    failed_comes spawn.next_of c.answered-in-Spawn.new.state
    (spawn.follows c.in-Spawn.own (deed_of c.args.act) s (reply_of c.args.answer)) s why
    (c.in_err-answered-in-Spawn.ensures.shows s fits) in
    search rules

pub returns-in_err-answered-in-Send-clause-shows :
    goal.returns-in_err-answered-in-Send-clause-shows
returns-in_err-answered-in-Send-clause-shows g c = λ s fits.
    let why = c.in_err-answered-in-Send.field-0.0 in
    let failed : Comes (next_of {A = g.row.A.Denot})
    (send.next_of c.in-Send.own (deed_of c.args.act) s (reply_of c.args.answer)) (Err why)
    c.args.state.now =
    failed_comes send.next_of c.args.state.now
    (send.follows c.in-Send.own (reply_of c.args.answer)) s why
    (c.in_err-answered-in-Send.ensures s fits) in
    search rules
