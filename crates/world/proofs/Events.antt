pub mod EventsEnd
pub mod WholeEvents
pub mod RestartsInTurn
pub mod EndedWorlds
pub mod NextPacket
pub mod RequestsOfClients
pub mod BeforeTheFirst
pub mod OneMore
