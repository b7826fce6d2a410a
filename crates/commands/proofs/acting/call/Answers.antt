use Rattle.std.proofs.Common.{Ok, rules}
use Rattle.kinds.proofs.Comes.{mapped_shows, talks_comes}
use Rattle.kinds.specs.Exchange.{talks}
use Rattle.output.specs.LogFile as log_file
use Rattle.processes.specs.Close as close
use Rattle.processes.specs.Wait as wait
use Rattle.processes.specs.Sleep as sleep
use Rattle.processes.specs.Socket as socket
use Rattle.processes.specs.Spawn as spawn
use Rattle.output.specs.Send as send
use Rattle.state.specs.Leaf.{Shows}
use Rattle.output.specs.Channel as channel
use Rattle.output.specs.Puts.{puts}
use Rattle.output.specs.SendError.{send_error}
use Rattle.output.specs.SendLog.{send_log}
use Rattle.output.specs.SendUser.{send_user}
use Rattle.commands.proofs.acting.call.Goals as goal

pub returns-in_ok-begin-in-Spawn-clause-shows : goal.returns-in_ok-begin-in-Spawn-clause-shows
returns-in_ok-begin-in-Spawn-clause-shows g c = λ s fits.
    let shown : Shows spawn.next_of c.in_ok-begin-in-Spawn.field-0 c.begin-in-Spawn.new.state
    (talks (spawn.spawn c.args.args.now s) s) =
    talks_comes spawn.next_of c.begin-in-Spawn.new.state (spawn.spawn c.args.args.now s) s
    (Ok c.in_ok-begin-in-Spawn.field-0) (c.in_ok-begin-in-Spawn.ensures.shows s fits) in
    search rules

pub returns-in_ok-begin-in-Send-clause-shows : goal.returns-in_ok-begin-in-Send-clause-shows
returns-in_ok-begin-in-Send-clause-shows g c = λ s fits.
    let shown : Shows send.next_of c.in_ok-begin-in-Send.field-0 c.args.state.now
    (talks (send.send c.args.args.now s) s) =
    talks_comes send.next_of c.args.state.now (send.send c.args.args.now s) s
    (Ok c.in_ok-begin-in-Send.field-0) (c.in_ok-begin-in-Send.ensures s fits) in
    search rules

pub returns-in_ok-begin-in-Sleep-clause-shows : goal.returns-in_ok-begin-in-Sleep-clause-shows
returns-in_ok-begin-in-Sleep-clause-shows g c = λ s fits.
    let shown : Shows sleep.next_of c.in_ok-begin-in-Sleep.field-0 c.args.state.now
    (talks (sleep.sleep c.args.args.now) s) =
    talks_comes sleep.next_of c.args.state.now (sleep.sleep c.args.args.now) s
    (Ok c.in_ok-begin-in-Sleep.field-0) (c.in_ok-begin-in-Sleep.ensures s fits) in
    search (rules, mapped_shows)

pub returns-in_ok-begin-in-Socket-clause-shows : goal.returns-in_ok-begin-in-Socket-clause-shows
returns-in_ok-begin-in-Socket-clause-shows g c = λ s fits.
    let shown : Shows socket.next_of c.in_ok-begin-in-Socket.field-0 c.args.state.now
    (talks (socket.socket c.args.args.now s) s) =
    talks_comes socket.next_of c.args.state.now (socket.socket c.args.args.now s) s
    (Ok c.in_ok-begin-in-Socket.field-0) (c.in_ok-begin-in-Socket.ensures s fits) in
    search (rules, mapped_shows)

pub returns-in_ok-begin-in-Close-clause-shows : goal.returns-in_ok-begin-in-Close-clause-shows
returns-in_ok-begin-in-Close-clause-shows g c = λ s fits.
    let shown : Shows close.next_of c.in_ok-begin-in-Close.field-0 c.args.state.now
    (talks (close.close c.args.args.now s) s) =
    talks_comes close.next_of c.args.state.now (close.close c.args.args.now s) s
    (Ok c.in_ok-begin-in-Close.field-0) (c.in_ok-begin-in-Close.ensures s fits) in
    search (rules, mapped_shows)

pub returns-in_ok-begin-in-Wait-clause-shows : goal.returns-in_ok-begin-in-Wait-clause-shows
returns-in_ok-begin-in-Wait-clause-shows g c = λ s fits.
    let shown : Shows wait.next_of c.in_ok-begin-in-Wait.field-0 c.begin-in-Wait.new.state
    (talks (wait.wait c.args.args.now s) s) =
    talks_comes wait.next_of c.begin-in-Wait.new.state (wait.wait c.args.args.now s) s
    (Ok c.in_ok-begin-in-Wait.field-0) (c.in_ok-begin-in-Wait.ensures.shows s fits) in
    search rules

pub returns-in_ok-begin-in-LogFile-clause-shows : goal.returns-in_ok-begin-in-LogFile-clause-shows
returns-in_ok-begin-in-LogFile-clause-shows g c = λ s fits.
    let shown : Shows log_file.next_of c.in_ok-begin-in-LogFile.field-0 c.args.state.now
    (talks (log_file.log_file c.args.args.now s) s) =
    talks_comes log_file.next_of c.args.state.now (log_file.log_file c.args.args.now s) s
    (Ok c.in_ok-begin-in-LogFile.field-0) (c.in_ok-begin-in-LogFile.ensures s fits) in
    search rules

pub returns-in_ok-begin-in-Puts-clause-shows : goal.returns-in_ok-begin-in-Puts-clause-shows
returns-in_ok-begin-in-Puts-clause-shows g c = λ s fits.
    let shown : Shows channel.next_of c.in_ok-begin-in-Puts.field-0 c.args.state.now
    (talks (puts c.args.args.now) s) =
    talks_comes channel.next_of c.args.state.now (puts c.args.args.now) s
    (Ok c.in_ok-begin-in-Puts.field-0) (c.in_ok-begin-in-Puts.ensures s c.args.state.now fits) in
    search (rules, mapped_shows)

pub returns-in_ok-begin-in-SendUser-clause-shows : goal.returns-in_ok-begin-in-SendUser-clause-shows
returns-in_ok-begin-in-SendUser-clause-shows g c = λ s fits.
    let shown : Shows channel.next_of c.in_ok-begin-in-SendUser.field-0 c.args.state.now
    (talks (send_user c.args.args.now) s) =
    talks_comes channel.next_of c.args.state.now (send_user c.args.args.now) s
    (Ok c.in_ok-begin-in-SendUser.field-0) (c.in_ok-begin-in-SendUser.ensures s c.args.state.now fits) in
    search (rules, mapped_shows)

pub returns-in_ok-begin-in-SendError-clause-shows : goal.returns-in_ok-begin-in-SendError-clause-shows
returns-in_ok-begin-in-SendError-clause-shows g c = λ s fits.
    let shown : Shows channel.next_of c.in_ok-begin-in-SendError.field-0 c.args.state.now
    (talks (send_error c.args.args.now) s) =
    talks_comes channel.next_of c.args.state.now (send_error c.args.args.now) s
    (Ok c.in_ok-begin-in-SendError.field-0) (c.in_ok-begin-in-SendError.ensures s c.args.state.now fits) in
    search (rules, mapped_shows)

pub returns-in_ok-begin-in-SendLog-clause-shows : goal.returns-in_ok-begin-in-SendLog-clause-shows
returns-in_ok-begin-in-SendLog-clause-shows g c = λ s fits.
    let shown : Shows channel.next_of c.in_ok-begin-in-SendLog.field-0 c.args.state.now
    (talks (send_log c.args.args.now s) s) =
    talks_comes channel.next_of c.args.state.now (send_log c.args.args.now s) s
    (Ok c.in_ok-begin-in-SendLog.field-0) (c.in_ok-begin-in-SendLog.ensures s fits) in
    search (rules, mapped_shows)
