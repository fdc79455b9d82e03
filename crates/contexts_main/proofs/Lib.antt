mod Places
mod Tables
