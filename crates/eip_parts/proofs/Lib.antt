mod LastParts
mod Refusing
mod Seeding
